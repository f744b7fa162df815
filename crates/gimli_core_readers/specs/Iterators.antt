-- What a call of `next` returns, and what it leaves to come.
use Rattle.std.specs.Prelude.{◌≡◌, ◌≢◌, List, [], ◌∷◌, Option, Some, None, Result, Ok, Err}
use Rattle.gimli_core_base.specs.declared.error.Error.{Error}
use Rattle.gimli_core_base.specs.declared.error.Error.TheVariants.{Memory}
use Rattle.gimli_core_base.specs.View.{View, prefix}
use Rattle.gimli_core_base.specs.Repetition.{Listing, prepend, fault_of}

-- ---- by the bytes that an iterator goes over

-- The meaning's value; after a fault no bytes are left.
abbrev pub ReadsAsOrEnds : {A B : Type 0}
    → (A → B) → Result A Error → View → View → Result (B × View) Error → Type 0
ReadsAsOrEnds see (Ok x) old new meaning = meaning ≡ Ok (see x, new)
ReadsAsOrEnds see (Err e) old new meaning = (meaning ≡ Err e) × (new ≡ prefix 0 old)

abbrev pub ReadsOrEnds : {A : Type 0}
    → Result A Error → View → View → Result (A × View) Error → Type 0
ReadsOrEnds result old new meaning = ReadsAsOrEnds (λ x. x) result old new meaning

-- The same, or out of memory, which changes nothing.
abbrev pub ReadsAsOrEndsOrNoMemory : {A B : Type 0}
    → (A → B) → Result A Error → View → View → Result (B × View) Error → Type 0
ReadsAsOrEndsOrNoMemory see (Ok x) old new meaning = meaning ≡ Ok (see x, new)
ReadsAsOrEndsOrNoMemory see (Err e) old new meaning =
    (e ≢ Memory → (meaning ≡ Err e) × (new ≡ prefix 0 old))
    × (e ≡ Memory → new ≡ old)

abbrev pub ReadsOrEndsOrNoMemory : {A : Type 0}
    → Result A Error → View → View → Result (A × View) Error → Type 0
ReadsOrEndsOrNoMemory result old new meaning =
    ReadsAsOrEndsOrNoMemory (λ x. x) result old new meaning

-- ---- by the items that are to come

-- What was to come before a call is the item that it returns, and then what is to come after it.
-- Nothing more was to come where it returns none, and where it returns a fault, that is what ended
-- the items.
abbrev pub ComesNext : {A : Type 0} → Result (Option A) Error → Listing View A
    → Listing View A → Type 0
ComesNext (Ok None) old new = (old.items ≡ []) × (fault_of old ≡ None)
ComesNext (Ok (Some x)) old new = old ≡ prepend (x ∷ []) new
ComesNext (Err e) old new = e ≢ Memory → (old.items ≡ []) × (fault_of old ≡ Some e)

-- ---- by the answers that are to come: values, and faults in their places

-- A call that takes no memory: what was to come before it is its answer, and then what is to come
-- after it; there is no answer where nothing was to come.
abbrev pub ReturnsNext : {A B : Type 0} → (A → B) → Result (Option A) Error
    → List (Result B Error) → List (Result B Error) → Type 0
ReturnsNext see (Ok None) old new = (old ≡ []) × (new ≡ [])
ReturnsNext see (Ok (Some x)) old new = old ≡ Ok (see x) ∷ new
ReturnsNext see (Err e) old new = old ≡ Err e ∷ new

-- A call that may be out of memory; then all is still to come.
abbrev pub ReturnsNextOrNoMemory : {A B : Type 0} → (A → B) → Result (Option A) Error
    → List (Result B Error) → List (Result B Error) → Type 0
ReturnsNextOrNoMemory see (Ok None) old new = (old ≡ []) × (new ≡ [])
ReturnsNextOrNoMemory see (Ok (Some x)) old new = old ≡ Ok (see x) ∷ new
ReturnsNextOrNoMemory see (Err e) old new =
    (e ≢ Memory → old ≡ Err e ∷ new) × (e ≡ Memory → new ≡ old)
