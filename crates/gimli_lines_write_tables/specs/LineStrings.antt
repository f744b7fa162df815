-- The texts of a line number program's header, and the tables that hold them (DWARF 5, 6.2.4.1).
use Rattle.std.specs.Prelude.{◌≡◌, ℕ, ◌<◌, ◌≤◌, nat_le, List, Option, Some, length, slice_get, if◌then◌else◌}
use Rattle.gimli_lines_write_rows.specs.LineTexts.{Text, in_header, of_strings, of_line_strings}
use Rattle.gimli_lines_write_tables.specs.declared.line_string.LineString.{LineString}
use Rattle.gimli_lines_write_tables.specs.declared.line_string.LineString.TheVariants.{String, StringRef, LineStringRef}
use Rattle.gimli_lines_write_tables.specs.StringSections.{with_text, text_index}

-- the bytes of a text, where its table has it
abbrev pub bytes_of_text : List (List ℕ) → List (List ℕ) → Text → Option (List ℕ)
bytes_of_text strings line_strings (in_header bytes) = Some bytes
bytes_of_text strings line_strings (of_strings place) = slice_get strings place
bytes_of_text strings line_strings (of_line_strings place) = slice_get line_strings place

-- its table has it
abbrev pub IsKnown : List (List ℕ) → List (List ℕ) → Text → Type 0
IsKnown strings line_strings (in_header bytes) = Unit {0}
IsKnown strings line_strings (of_strings place) = place < length strings
IsKnown strings line_strings (of_line_strings place) = place < length line_strings

-- Up to version 4 a text is in the header, from version 5 on in `.debug_line_str`.
abbrev pub HoldsText : ℕ → List ℕ → List (List ℕ) → LineString → Type 0
HoldsText version bytes line_strings (String text) = (version ≤ 4) × (text.items ≡ bytes)
HoldsText version bytes line_strings (StringRef id) = ⊥
HoldsText version bytes line_strings (LineStringRef id) =
    (4 < version) × (id.0 ≡ text_index line_strings bytes)

-- that table then
abbrev pub table_after : ℕ → List ℕ → List (List ℕ) → List (List ℕ)
table_after version bytes line_strings =
    if nat_le version 4 then line_strings else with_text line_strings bytes
