-- The texts of a line number program's header as they are written (DWARF 5, 6.2.4.1 and 7.5.5).
use Rattle.std.specs.Prelude.{ℕ, ◌^◌, ◌<◌, ◌≢◌, nat_le, Bool, List, [], ◌∷◌, ◌++◌, length, if◌then◌else◌}
use Rattle.gimli_lines_write_rows.specs.Format.{Format}
use Rattle.gimli_lines_write_rows.specs.TheConstants.{DW_FORM_string, DW_FORM_strp, DW_FORM_line_strp}
use Rattle.gimli_lines_write_rows.specs.FormatSizes.{word_size}
use Rattle.gimli_lines_write_rows.specs.Fixed.{number_bytes}
pub use Rattle.gimli_lines_write_rows.specs.LineTexts.{Text, in_header, of_strings, of_line_strings}
use Rattle.gimli_lines_write_rows.specs.LineTexts.{IsText}
use Rattle.gimli_lines_header.specs.AttributeValues.{RawValue, string, string_reference, line_string_reference}

-- the numbers of the forms string, strp and line_strp
abbrev pub form_of : Text → ℕ
form_of (in_header _) = DW_FORM_string.0
form_of (of_strings _) = DW_FORM_strp.0
form_of (of_line_strings _) = DW_FORM_line_strp.0

-- the form of the texts of a list, which the first of them has
abbrev pub form_in : List Text → ℕ
form_in [] = DW_FORM_string.0
form_in (t ∷ _) = form_of t

-- the form of a list in a version: up to version 4 every text is in the header
abbrev pub form_in_version : ℕ → ℕ → ℕ
form_in_version version form = if nat_le version 4 then DW_FORM_string.0 else form

-- its bytes and a zero byte, or its offset in as many bytes as the format gives offsets
abbrev pub spelled_text : Bool → Format → Text → List ℕ
spelled_text is_big format (in_header text) = text ++ 0 ∷ []
spelled_text is_big format (of_strings offset) = number_bytes is_big (word_size format) offset
spelled_text is_big format (of_line_strings offset) = number_bytes is_big (word_size format) offset

-- what is read of it where its first byte has an identifier
abbrev pub value_of_text : Bool → ℕ → Text → RawValue
value_of_text is_big first (in_header text) =
    string (record { bytes = text; is_big = is_big; first = first })
value_of_text is_big first (of_strings offset) = string_reference offset
value_of_text is_big first (of_line_strings offset) = line_string_reference offset

-- It can be read again: a text without a zero byte, or an offset of the format, below a limit.
abbrev pub IsReadableText : ℕ → Format → Text → Type 0
IsReadableText limit format (in_header text) = IsText text
IsReadableText limit format (of_strings offset) =
    (offset < limit) × (offset < 256 ^ word_size format)
IsReadableText limit format (of_line_strings offset) =
    (offset < limit) × (offset < 256 ^ word_size format)

-- a text that can be in the tables up to version 4, which an empty text ends
abbrev pub IsEntry : Text → Type 0
IsEntry (in_header text) = length text ≢ 0
IsEntry (of_strings offset) = ⊥
IsEntry (of_line_strings offset) = ⊥
