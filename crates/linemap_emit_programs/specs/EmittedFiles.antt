-- The directories and files of a unit's line number program as they are added (DWARF 5, 6.2.4): in
-- version 5 their texts are in `.debug_line_str`.
use Rattle.std.specs.Prelude.{ℕ, ◌≢◌, nat_le, List, [], ◌∷◌, length, Option, Some, None, slice_get, if◌then◌else◌}
use Rattle.linemap_emit_rows.specs.Encoding.{Encoding}
use Rattle.linemap_emit_rows.specs.LineDefaults.{default_line_encoding}
use Rattle.linemap_emit_rows.specs.FileId.{FileId}
use Rattle.linemap_emit_rows.specs.BuiltRows.{raw_file}
use Rattle.gimli_lines_write_laws.specs.StringSections.{IsText, text_index, item_index}
use Rattle.gimli_lines_write_laws.specs.LineStrings.{table_after}
use Rattle.gimli_lines_write_laws.specs.FileTables.{Text, in_header, of_line_strings, File, ProgramFiles, is_same, is_same_file, with_directory, with_file}
use Rattle.gimli_lines_write_program.specs.BuiltPrograms.{new_program}
use Rattle.linemap_emit_rows.specs.TableParts.{FilePart, UnitPart}

-- a text that a table of directories or files can have: without a zero byte, and not empty
abbrev pub IsTableText : List ℕ → Type 0
IsTableText text = IsText text × (length text ≢ 0)

-- a text of a header: up to version 4 its bytes, in version 5 its place in `.debug_line_str`
abbrev pub text_in : ℕ → List (List ℕ) → List ℕ → Text
text_in version line_texts bytes =
    if nat_le version 4 then in_header bytes else of_line_strings (text_index line_texts bytes)

-- the texts of `.debug_line_str`, and the directories and files of a program
pub record EmittedFiles : Type 0 where
  pub line_texts : List (List ℕ)
  pub tables : ProgramFiles

-- ---- a directory

-- with a directory, where it isn't there yet
abbrev pub with_directory_text : List ℕ → EmittedFiles → EmittedFiles
with_directory_text bytes st = record {
  line_texts = table_after st.tables.version bytes st.line_texts;
  tables = with_directory (text_in st.tables.version st.line_texts bytes) st.tables;
}

-- its number
abbrev pub directory_number : List ℕ → EmittedFiles → ℕ
directory_number bytes st =
    item_index is_same st.tables.directories (text_in st.tables.version st.line_texts bytes)

-- ---- a file

-- a file of a name, in a directory of a number
abbrev pub named_file : ℕ → List ℕ → EmittedFiles → File
named_file directory name st =
    record { path = text_in st.tables.version st.line_texts name; directory = directory }

-- with such a file, where it isn't there yet
abbrev pub with_named_file : ℕ → List ℕ → EmittedFiles → EmittedFiles
with_named_file directory name st = record {
  line_texts = table_after st.tables.version name st.line_texts;
  tables = with_file (named_file directory name st) None st.tables;
}

-- its place among the files
abbrev pub named_place : ℕ → List ℕ → EmittedFiles → ℕ
named_place directory name st =
    item_index is_same_file st.tables.files (named_file directory name st)

-- ---- the files of a table

-- with a file of a table
abbrev pub with_table_file : FilePart → EmittedFiles → EmittedFiles
with_table_file f st =
    with_named_file (directory_number f.directory st) f.name (with_directory_text f.directory st)

-- its place
abbrev pub table_file_place : FilePart → EmittedFiles → ℕ
table_file_place f st =
    named_place (directory_number f.directory st) f.name (with_directory_text f.directory st)

-- with all files
unfoldable pub with_table_files : List FilePart → EmittedFiles → EmittedFiles
with_table_files [] st = st
with_table_files (f ∷ fs) st = with_table_files fs (with_table_file f st)

-- the id of each
unfoldable pub table_file_ids : List FilePart → EmittedFiles → List FileId
table_file_ids [] st = []
table_file_ids (f ∷ fs) st =
    record { 0 = table_file_place f st } ∷ table_file_ids fs (with_table_file f st)

-- ---- a unit

-- The unit's own directory is the first, and in version 5 its name is the first file.
abbrev pub first_unit_files : Encoding → UnitPart → List (List ℕ) → EmittedFiles
first_unit_files e u line_texts = record {
  line_texts = table_after e.version u.name (table_after e.version u.directory line_texts);
  tables = (new_program e default_line_encoding (text_in e.version line_texts u.directory)
      (text_in e.version (table_after e.version u.directory line_texts) u.name)).tables;
}

-- the files of a unit, after the texts of others
abbrev pub unit_files : Encoding → UnitPart → List (List ℕ) → EmittedFiles
unit_files e u line_texts = with_table_files u.files (first_unit_files e u line_texts)

-- the ids of a unit's files, by their indices in the table
abbrev pub unit_file_ids : Encoding → UnitPart → List (List ℕ) → List FileId
unit_file_ids e u line_texts = table_file_ids u.files (first_unit_files e u line_texts)

-- the place of an id
abbrev pub place_of_id : Option FileId → ℕ
place_of_id (Some id) = id.0
place_of_id None = 0

-- the place of a file of the table
abbrev pub place_in : List FileId → ℕ → ℕ
place_in ids i = place_of_id (slice_get ids i)

-- the number by which rows and calls name it
abbrev pub file_number : ℕ → List FileId → ℕ → ℕ
file_number version ids i = raw_file version (place_in ids i)

-- ---- what can be added

-- the texts of files can be in tables
unfoldable pub AllTableTexts : List FilePart → Type 0
AllTableTexts [] = Unit {0}
AllTableTexts (f ∷ fs) = IsTableText f.directory × IsTableText f.name × AllTableTexts fs

-- and so can those of a unit's own directory and name
pub record HasTableTexts (u : UnitPart) : Type 0 where
  pub directory : IsTableText u.directory
  pub name : IsTableText u.name
  pub files : AllTableTexts u.files
