-- When a text is a name.
use Rattle.std.proofs.Common.{◌≡◌, Bool, true, false, cond, not, ◌&&◌, ℕ, List, length, eqb, Option, Some, None, ap, refl, ◌∙◌}
use Rattle.std.specs.Str.{IsUtf8, is_utf8}
use Rattle.std.proofs.lemmas.Str.{IsUtf8-from_is_utf8, is_utf8-from_IsUtf8}
use Rattle.addr2line_elf.specs.ElfSymbols.{as_name}

choice : List ℕ → Bool → Option (List ℕ)
choice text b = cond b (Some text) None

pub name_yes : (text : List ℕ) → eqb (length text) 0 ≡ false → IsUtf8 text → as_name text ≡ Some text
unfolding choice
name_yes text some h =
    ap (λ b. choice text (not b && is_utf8 text)) some ∙ ap (choice text) (is_utf8-from_IsUtf8 text h)

pub name_no : (text : List ℕ) → eqb (length text) 0 ≡ false → ¬ (IsUtf8 text) → as_name text ≡ None
unfolding choice
name_no text some h = ap (λ b. choice text (not b && is_utf8 text)) some ∙ at (is_utf8 text) refl
  where
    at : (b : Bool) → is_utf8 text ≡ b → choice text b ≡ None
    at true e = absurd (h (IsUtf8-from_is_utf8 text e))
    at false e = refl
