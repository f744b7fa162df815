-- What is seen of a value that a call makes, or is out of memory for.
use Rattle.std.proofs.Common.{◌≡◌, Result, Ok, Err, ap, ◌∙◌}
use Rattle.std.specs.Prelude.{IfOk}
use Rattle.gimli_units_entries.specs.Error.{Error}
use Rattle.gimli_units_entries.specs.Calls.{ReturnsOrNoMemory, ReturnsAsOrNoMemory}

-- a result that is a value
abbrev ok_value : {A : Type 0} → A → Result A Error
ok_value x = Ok x

pub returns_seen : {A B : Type 0} (see : A → B) (r : Result A Error) (x : A) (all : Result B Error)
    → ReturnsOrNoMemory r (ok_value x) → all ≡ Ok (see x) → ReturnsAsOrNoMemory see r all
returns_seen see (Ok y) x all is same = let one : x ≡ y = cc in same ∙ ap (λ z. ok_value (see z)) one
returns_seen see (Err e) x all is same = λ m. let never = is m in absurd cc

pub ok_seen : {A B : Type 0} (see : A → B) (r : Result A Error) (x : A) → ReturnsOrNoMemory r (ok_value x)
    → IfOk r (λ y. see y ≡ see x)
ok_seen see (Ok y) x is = let one : y ≡ x = cc in ap see one
ok_seen see (Err e) x is = tt
