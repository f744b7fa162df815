-- How the texts of files are appended to others.
use Rattle.std.specs.Prelude.{◌≡◌, ◌≢◌, ℕ, List, ◌++◌, Result, Ok, Err}
use Rattle.gimli_lines_rows.specs.Error.{Error}
use Rattle.gimli_lines_rows.specs.Error.TheVariants.{Memory}

-- The texts that are meant are appended to the old ones; or the answer is their refusal, or out of
-- memory.
abbrev pub AddsTexts : {A : Type 0} → Result A Error → List (List ℕ) → List (List ℕ)
    → Result (List (List ℕ)) Error → Type 0
AddsTexts (Ok x) old new meant = (texts : List (List ℕ)) × (meant ≡ Ok texts) × (new ≡ old ++ texts)
AddsTexts (Err e) old new meant = e ≢ Memory → meant ≡ Err e
