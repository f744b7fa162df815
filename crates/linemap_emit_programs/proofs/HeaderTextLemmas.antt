-- Texts as the headers of a version have them.
use Rattle.std.proofs.Common.{◌≡◌, ◌≢◌, ℕ, List, length, ap, sym, subst, ◌∙◌}
use Rattle.std.specs.Prelude.{if◌then◌else◌}
use Rattle.std.proofs.lemmas.Bool.{le-leb, lt-leb}
use Rattle.gimli_lines_write_laws.specs.FileTables.{in_header, of_line_strings, text_of, HasNoZero, HasBytes}
use Rattle.gimli_lines_write_laws.specs.StringSections.{IsText, text_index}
use Rattle.gimli_lines_write_laws.specs.LineStrings.{HoldsText}
use Rattle.gimli_lines_write_tables.specs.declared.line_string.LineString.{LineString}
use Rattle.gimli_lines_write_tables.specs.declared.line_string.LineString.TheVariants.{String, StringRef, LineStringRef}
use Rattle.linemap_emit_programs.specs.EmittedFiles.{IsTableText, text_in}

-- a text that was made for a version is the one that it has
pub text_held : (version : ℕ) (bytes : List ℕ) (line_texts : List (List ℕ)) (t : LineString)
    → HoldsText version bytes line_texts t → text_of t ≡ text_in version line_texts bytes
text_held version bytes line_texts (String text) held =
    ap in_header held.1
    ∙ ap (λ b. if b then in_header bytes else of_line_strings (text_index line_texts bytes))
    (sym (le-leb version 4 held.0))
text_held version bytes line_texts (StringRef id) held = absurd held
text_held version bytes line_texts (LineStringRef id) held =
    ap of_line_strings held.1
    ∙ ap (λ b. if b then in_header bytes else of_line_strings (text_index line_texts bytes))
    (sym (lt-leb version 4 held.0))

-- it holds no zero byte
pub text_free : (version : ℕ) (bytes : List ℕ) (line_texts : List (List ℕ)) (t : LineString)
    → HoldsText version bytes line_texts t → IsTableText bytes → HasNoZero (text_of t)
text_free version bytes line_texts (String text) held is = subst IsText (sym held.1) is.0
text_free version bytes line_texts (StringRef id) held is = absurd held
text_free version bytes line_texts (LineStringRef id) held is = tt

-- and isn't empty
pub text_filled : (version : ℕ) (bytes : List ℕ) (line_texts : List (List ℕ)) (t : LineString)
    → HoldsText version bytes line_texts t → IsTableText bytes → HasBytes (text_of t)
text_filled version bytes line_texts (String text) held is =
    subst (λ (l : List ℕ). length l ≢ 0) (sym held.1) is.1
text_filled version bytes line_texts (StringRef id) held is = absurd held
text_filled version bytes line_texts (LineStringRef id) held is = tt

-- what is known of a text that the header finds
pub ruleset header_texts = (text_held, text_free, text_filled)
