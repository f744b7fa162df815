-- The JSON value of a text.
use Rattle.std.proofs.Common.{◌≡◌, ℕ, Bool, true, false, cond, List, Some, None, refl}
use Rattle.std.specs.Str.{IsUtf8, is_utf8}
use Rattle.std.proofs.lemmas.Str.{IsUtf8-from_is_utf8, is_utf8-from_IsUtf8}
use Rattle.serde_json.specs.Data.{Data}
use Rattle.serde_json.specs.Read.{read}
use Rattle.linemap_table.specs.TableInText.{json_in}

pub json_in-read : (text : List ℕ) (d : Data) → IsUtf8 text → read text ≡ Some d → json_in text ≡ Some d
json_in-read text d utf8 is = rw (is_utf8-from_IsUtf8 text utf8) is

pub json_in-utf8 : (text : List ℕ) → IsUtf8 text → json_in text ≡ read text
json_in-utf8 text utf8 = rw (is_utf8-from_IsUtf8 text utf8)

by_cases : (text : List ℕ) (b : Bool) → is_utf8 text ≡ b → (IsUtf8 text → read text ≡ None)
    → cond b (read text) None ≡ None
by_cases text true e refused = refused (IsUtf8-from_is_utf8 text e)
by_cases text false e refused = refl

pub json_in-refused : (text : List ℕ) → (IsUtf8 text → read text ≡ None) → json_in text ≡ None
json_in-refused text refused = by_cases text (is_utf8 text) refl refused
