-- Bytes that a writer leaves, as a reader sees them.
use Rattle.std.specs.Prelude.{ℕ, ◌+◌, Bool, List, [], ◌∷◌, length}
use Rattle.gimli_core_base.specs.View.{View}

-- bytes, the first of which has an identifier
abbrev pub bytes_at : Bool → ℕ → List ℕ → View
bytes_at is_big first bytes = record { bytes = bytes; is_big = is_big; first = first }

-- what items are read as, the first of which begins at an identifier
abbrev pub values_at : {T A : Type 0} → (T → List ℕ) → (ℕ → T → A) → ℕ → List T → List A
values_at string value first [] = []
values_at string value first (t ∷ ts) =
    value first t ∷ values_at string value (first + length (string t)) ts
