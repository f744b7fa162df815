-- The addresses of the rows so far, and of the rows to come.
use Rattle.std.proofs.Common.{◌≡◌, ◌≢◌, ℕ, Bool, true, false, List, [], ◌∷◌, ◌++◌, Result, Ok, Err, IsErrAnd, refl, sym, ap, ◌∙◌, append_assoc}
use Rattle.gimli_core.specs.Calls.{ReturnsAsOrNoMemory}
use Rattle.gimli_core.specs.Results.{and_then, each}
use Rattle.gimli_dwarf.specs.Error.{Error}
use Rattle.gimli_dwarf.specs.Error.TheVariants.{Memory}
use Rattle.gimli_lines.specs.ProgramRows.{Row, RemainingRows, NextRow, rows_to_come}
use Rattle.examples.specs.RowAddresses.{row_address}

-- what comes after a list
abbrev pub append_to : List ℕ → Result (List ℕ) Error → Result (List ℕ) Error
append_to xs r = and_then r (λ ys. Ok (xs ++ ys))

abbrev pub addresses_of : List (Result Row Error) → Result (List ℕ) Error
addresses_of rows = each row_address rows

-- before the first row
pub append_to_nothing : (r : Result (List ℕ) Error) → append_to [] r ≡ r
append_to_nothing (Ok ys) = refl
append_to_nothing (Err e) = refl

append_one : (xs : List ℕ) (y : ℕ) (r : Result (List ℕ) Error)
    → append_to (xs ++ y ∷ []) r ≡ append_to xs (and_then r (λ ys. Ok (y ∷ ys)))
append_one xs y (Ok ys) = ap Ok (append_assoc xs (y ∷ []) ys)
append_one xs y (Err e) = refl

-- the next row
pub append_next : (limit : ℕ) (old new : RemainingRows) (b : Bool) (xs ys : List ℕ) → b ≡ true
    → NextRow limit (Ok b) old new → ys ≡ xs ++ new.last.address ∷ []
    → append_to ys (addresses_of (rows_to_come limit new)) ≡ append_to xs (addresses_of (rows_to_come limit old))
append_next limit old new true xs ys is next added =
    ap (λ zs. append_to zs (addresses_of (rows_to_come limit new))) added
    ∙ append_one xs new.last.address (addresses_of (rows_to_come limit new))
    ∙ ap (λ rows. append_to xs (addresses_of rows)) (sym next)
append_next limit old new false xs ys is next added = cc is

-- a fault
pub refusal_returned : {A B : Type 0} (see : A → B) (r : Result A Error) (wanted : Result B Error) (e : Error)
    → IsErrAnd r (λ f. f ≡ e) → (e ≢ Memory → wanted ≡ Err e) → ReturnsAsOrNoMemory see r wanted
refusal_returned see (Ok x) wanted e is refused = absurd is
refusal_returned see (Err f) wanted e is refused = λ ne. refused (λ same. ne (is ∙ same)) ∙ ap Err (sym is)
