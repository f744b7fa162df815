-- How a call's result relates to its meaning, which a definition gives. `see` is what a contract
-- sees of a value; the words without `As` compare the value itself.
use Rattle.std.specs.Prelude.{◌≡◌, ◌≢◌, Result, Ok, Err}
use Rattle.gimli_core_base.specs.declared.error.Error.{Error}
use Rattle.gimli_core_base.specs.declared.error.Error.TheVariants.{Memory}
use Rattle.gimli_core_base.specs.Parsers.{Step}

-- ---- results

-- The definition's value, or its refusal.
abbrev pub ReturnsAs : {A B E : Type 0} → (A → B) → Result A E → Result B E → Type 0
ReturnsAs see (Ok x) meaning = meaning ≡ Ok (see x)
ReturnsAs see (Err e) meaning = meaning ≡ Err e

abbrev pub Returns : {A E : Type 0} → Result A E → Result A E → Type 0
Returns result meaning = ReturnsAs (λ x. x) result meaning

-- The definition's value, or its refusal, or out of memory.
abbrev pub ReturnsAsOrNoMemory : {A B : Type 0} → (A → B) → Result A Error → Result B Error
    → Type 0
ReturnsAsOrNoMemory see (Ok x) meaning = meaning ≡ Ok (see x)
ReturnsAsOrNoMemory see (Err e) meaning = e ≢ Memory → meaning ≡ Err e

abbrev pub ReturnsOrNoMemory : {A : Type 0} → Result A Error → Result A Error → Type 0
ReturnsOrNoMemory result meaning = ReturnsAsOrNoMemory (λ x. x) result meaning

-- ---- reads and steps, which change a state from old to new

-- As `ReturnsAs`; where it is refused, the state is unchanged.
abbrev pub ReadsAs : {A B S : Type 0} → (A → B) → Result A Error → S → S
    → Result (B × S) Error → Type 0
ReadsAs see (Ok x) old new meaning = meaning ≡ Ok (see x, new)
ReadsAs see (Err e) old new meaning = (meaning ≡ Err e) × (new ≡ old)

abbrev pub Reads : {A S : Type 0} → Result A Error → S → S → Result (A × S) Error
    → Type 0
Reads result old new meaning = ReadsAs (λ x. x) result old new meaning

-- As `ReturnsAsOrNoMemory`; where it is refused, the state is unchanged.
abbrev pub ReadsAsOrNoMemory : {A B S : Type 0} → (A → B) → Result A Error → S → S
    → Result (B × S) Error → Type 0
ReadsAsOrNoMemory see (Ok x) old new meaning = meaning ≡ Ok (see x, new)
ReadsAsOrNoMemory see (Err e) old new meaning =
    (e ≢ Memory → meaning ≡ Err e) × (new ≡ old)

abbrev pub ReadsOrNoMemory : {A S : Type 0} → Result A Error → S → S → Result (A × S) Error
    → Type 0
ReadsOrNoMemory result old new meaning = ReadsAsOrNoMemory (λ x. x) result old new meaning

-- A step from the old state, which stays where the step is refused.
abbrev pub StepsAsOrNoMemory : {A B S : Type 0} → (A → B) → Result A Error → S → S
    → Step S B → Type 0
StepsAsOrNoMemory see result old new step = ReadsAsOrNoMemory see result old new (step old)
