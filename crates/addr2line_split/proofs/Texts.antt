-- When bytes are a text.
use Rattle.std.proofs.Common.{◌≡◌, Bool, true, false, cond, ℕ, List, Option, Some, None, refl}
use Rattle.std.specs.Str.{IsUtf8, is_utf8}
use Rattle.std.proofs.lemmas.Str.{IsUtf8-from_is_utf8, is_utf8-from_IsUtf8}
use Rattle.addr2line_split.specs.FileReads.{as_text}

pub text_yes : (bytes : List ℕ) → IsUtf8 bytes → as_text bytes ≡ Some bytes
text_yes bytes h = rw (is_utf8-from_IsUtf8 bytes h) refl

pub text_no : (bytes : List ℕ) → ¬ (IsUtf8 bytes) → as_text bytes ≡ None
text_no bytes h = at (is_utf8 bytes) refl
  where
    none : Option (List ℕ)
    none = None

    at : (b : Bool) → is_utf8 bytes ≡ b → cond b (Some bytes) None ≡ none
    at true e = absurd (h (IsUtf8-from_is_utf8 bytes e))
    at false e = refl
