-- When bytes are a text.
use Rattle.std.proofs.Common.{◌≡◌, Bool, true, false, cond, ℕ, List, Result, Ok, Err, ap, refl}
use Rattle.std.specs.Str.{IsUtf8, is_utf8}
use Rattle.std.proofs.lemmas.Str.{IsUtf8-from_is_utf8, is_utf8-from_IsUtf8, utf8_lossy-IsUtf8}
use Rattle.std.specs.Str.Lossy.{utf8_lossy}
use Rattle.gimli_core_base.specs.declared.error.Error.{Error}
use Rattle.gimli_core_base.specs.declared.error.Error.TheVariants.{BadUtf8}
use Rattle.gimli_core_readers.specs.Readers.{utf8_of}

choice : List ℕ → Bool → Result (List ℕ) Error
choice bytes b = cond b (Ok bytes) (Err BadUtf8)

pub utf8_yes : (bytes : List ℕ) → IsUtf8 bytes → utf8_of bytes ≡ Ok bytes
unfolding choice
utf8_yes bytes h = ap (choice bytes) (is_utf8-from_IsUtf8 bytes h)

pub utf8_no : (bytes : List ℕ) → ¬ (IsUtf8 bytes) → utf8_of bytes ≡ Err BadUtf8
utf8_no bytes h = at (is_utf8 bytes) refl
  where
    at : (b : Bool) → is_utf8 bytes ≡ b → cond {A = Result (List ℕ) Error} b (Ok bytes) (Err BadUtf8) ≡ Err BadUtf8
    at true e = absurd (h (IsUtf8-from_is_utf8 bytes e))
    at false e = refl

pub lossy_same : (bytes : List ℕ) → IsUtf8 bytes → utf8_lossy bytes ≡ bytes
lossy_same bytes h = utf8_lossy-IsUtf8 bytes h
