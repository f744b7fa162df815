-- The texts of a string section (DWARF 5, 7.26): each once, and a zero byte ends it.
use Rattle.std.specs.Prelude.{ℕ, ◌+◌, nat_eq, Bool, List, [], ◌∷◌, ◌++◌, length, take, sum_by, if◌then◌else◌}
use Rattle.std.specs.List.{list_any, position_or_len}
use Rattle.std.specs.Cmp.Lexicographic.{pointwise}
pub use Rattle.gimli_lines_write_rows.specs.LineTexts.{IsText}

-- ---- items, each once

-- the items, with another after them where none is the same
abbrev pub with_item : {A : Type 0} → (A → A → Bool) → List A → A → List A
with_item same items x = if list_any (same x) items then items else items ++ x ∷ []

-- the place of the first that is the same, or the place after the last
abbrev pub item_index : {A : Type 0} → (A → A → Bool) → List A → A → ℕ
item_index same items x = position_or_len (same x) items

-- ---- texts

-- the same bytes
abbrev pub same_bytes : List ℕ → List ℕ → Bool
same_bytes a b = pointwise nat_eq a b

-- the texts, with another after them where it isn't among them
abbrev pub with_text : List (List ℕ) → List ℕ → List (List ℕ)
with_text texts t = with_item same_bytes texts t

-- the place of a text among them, or the place after the last
abbrev pub text_index : List (List ℕ) → List ℕ → ℕ
text_index texts t = item_index same_bytes texts t

-- the bytes of the section
unfoldable pub section_of : List (List ℕ) → List ℕ
section_of [] = []
section_of (t ∷ texts) = t ++ 0 ∷ section_of texts

-- where a text begins in the section: after the texts before it, and their zero bytes
abbrev pub offset_of : List (List ℕ) → ℕ → ℕ
offset_of texts i = sum_by (λ t. length t + 1) (take i texts)
