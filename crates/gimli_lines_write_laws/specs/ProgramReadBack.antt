-- A program that was written, as a reader gets it: its header, its directories and files with their
-- texts, and its rows (DWARF 5, 6.2).
use Rattle.std.specs.Prelude.{◌≡◌, ℕ, ◌+◌, ◌^◌, ◌<◌, ◌≤◌, ◌||◌, ◌&&◌, not, nat_le, Bool, List, [], ◌++◌, length, map, Option, Some, None, option_map, Result, Ok, Err, if◌then◌else◌}
use Rattle.std.specs.List.{zip}
use Rattle.gimli_lines_rows.specs.Error.{Error}
use Rattle.gimli_lines_rows.specs.View.{View}
use Rattle.gimli_lines_rows.specs.AttributeValues.{RawValue, string, string_reference, line_string_reference}
use Rattle.gimli_lines_rows.specs.LineFiles.{FileFacts, no_md5}
use Rattle.gimli_lines_rows.specs.LineHeaders.{LineHeader}
use Rattle.gimli_lines_rows.specs.HeaderParsing.{LineUnit, line_header}
use Rattle.gimli_lines_rows.specs.ProgramInstructions.{rules_of}
use Rattle.gimli_lines_rows.specs.ProgramRows.{rows_to_come}
use Rattle.gimli_lines_rows.specs.RowSequences.{rows_under}
use Rattle.gimli_lines_write_unit.specs.Registers.{Registers}
use Rattle.gimli_lines_write_unit.specs.LineRules.{LineRules}
use Rattle.gimli_lines_write_unit.specs.SectionReads.{string_at}
use Rattle.gimli_lines_write_unit.specs.BytesAt.{bytes_at}
use Rattle.gimli_lines_write_unit.specs.StringSections.{section_of}
use Rattle.gimli_lines_write_unit.specs.FileTables.{Text, HasNoZero, File, Info, ProgramFiles}
use Rattle.gimli_lines_write_unit.specs.LineStrings.{bytes_of_text}
use Rattle.gimli_lines_write_unit.specs.EntryFields.{IsDigest}
use Rattle.std.specs.Option.{IfSome}
use Rattle.gimli_lines_write_unit.specs.declared.details.FileDetails.{FileDetails}
use Rattle.gimli_lines_write_unit.specs.HeaderContents.{listed_directories, records_source}
use Rattle.gimli_lines_write_laws.specs.UnitReadBack.{answer_under}

-- ---- texts

-- the bytes of a string, where it can be read
abbrev pub bytes_if_read : Result View Error → Option (List ℕ)
bytes_if_read (Ok v) = Some v.bytes
bytes_if_read (Err e) = None

-- The text that a reader gets: the header's own, or the string at an offset in `.debug_str` or in
-- `.debug_line_str` (7.5.5).
abbrev pub text_read : View → View → RawValue → Option (List ℕ)
text_read str line_str (string v) = Some v.bytes
text_read str line_str (string_reference offset) = bytes_if_read (string_at offset str)
text_read str line_str (line_string_reference offset) = bytes_if_read (string_at offset line_str)
text_read str line_str _ = None

-- a section that begins with the texts of a table
abbrev pub Holds : List (List ℕ) → View → Type 0
Holds texts v = (more : List ℕ) × (v.bytes ≡ section_of texts ++ more)

-- ---- files

-- a file with its texts, and with what its header records of it
pub record FileRead : Type 0 where
  pub path : Option (List ℕ)
  pub directory : ℕ
  pub timestamp : ℕ
  pub size : ℕ
  pub md5 : List ℕ
  pub source : Option (Option (List ℕ))

-- a file as a reader gets it
abbrev pub file_read : View → View → FileFacts → FileRead
file_read str line_str f = record {
  path = text_read str line_str f.path;
  directory = f.directory_index;
  timestamp = f.timestamp;
  size = f.size;
  md5 = f.md5;
  source = option_map (text_read str line_str) f.source;
}

-- a file's own text; a missing one reads as the empty text
abbrev pub source_bytes : List (List ℕ) → List (List ℕ) → Option Text → Option (List ℕ)
source_bytes strings line_strings (Some t) = bytes_of_text strings line_strings t
source_bytes strings line_strings None = Some []

-- A file as it was built, with what its version and the details store: up to version 4 the time and
-- the size alone, in version 5 what the details say.
abbrev pub file_built : List (List ℕ) → List (List ℕ) → ℕ → FileDetails → File × Info → FileRead
file_built strings line_strings version d p = record {
  path = bytes_of_text strings line_strings p.0.path;
  directory = p.0.directory;
  timestamp = if nat_le version 4 || d.has_timestamp then p.1.timestamp else 0;
  size = if nat_le version 4 || d.has_size then p.1.size else 0;
  md5 = if not (nat_le version 4) && d.has_md5 then p.1.md5 else no_md5;
  source = if records_source version d
      then Some (source_bytes strings line_strings p.1.source)
      else None;
}

-- what is recorded of a file: numbers of 64 bits, and a digest
pub record InfoFits (i : Info) : Type 0 where
  pub timestamp : i.timestamp < 2 ^ 64
  pub size : i.size < 2 ^ 64
  pub md5 : IsDigest i.md5

-- the text of a file, if it has one, holds no zero byte
abbrev pub SourceHasNoZero : Info → Type 0
SourceHasNoZero i = IfSome i.source HasNoZero

-- ---- headers and units

-- A header that has these rules, the directories (up to version 4 without the working directory)
-- and the files of a program, with the texts that string sections hold.
pub record HeaderShows (strings line_strings : List (List ℕ)) (rules : LineRules) (k : ProgramFiles)
    (d : FileDetails) (h : LineHeader) : Type 0 where
  pub rules_are : rules_of h ≡ rules
  pub directories : (str line_str : View) → Holds strings str → Holds line_strings line_str
      → map (text_read str line_str) h.directories
      ≡ map (bytes_of_text strings line_strings) (listed_directories k.version k.directories)
  pub files : (str line_str : View) → Holds strings str → Holds line_strings line_str
      → map (file_read str line_str) h.files
      ≡ map (file_built strings line_strings k.version d) (zip k.files k.infos)

-- a reader that can hold the lengths of a unit and of the string sections
pub record CanHold (limit : ℕ) (strings line_strings : List (List ℕ)) (unit : List ℕ) : Type 0 where
  pub wide : 128 ≤ limit
  pub unit_fits : length unit < limit
  pub strings_fit : length (section_of strings) ≤ limit
  pub line_strings_fit : length (section_of line_strings) ≤ limit

-- The bytes are read as a unit of these directories, files and rows, whatever follows them.
abbrev pub ProgramReadsAs : List (List ℕ) → List (List ℕ) → LineRules → ProgramFiles → FileDetails
    → List Registers → Bool → List ℕ → Type 0
ProgramReadsAs strings line_strings rules k d rows is_big bytes =
    (limit offset first : ℕ) (unit : LineUnit) (rest : List ℕ)
    → CanHold limit strings line_strings bytes
    → unit.address_bytes ≡ rules.encoding.address_size
    → (h : LineHeader)
    × (line_header limit offset unit (bytes_at is_big first (bytes ++ rest))
    ≡ Ok (h, bytes_at is_big (first + length bytes) rest))
    × HeaderShows strings line_strings rules k d h
    × ((takes_files : Bool) → rows_to_come limit (rows_under takes_files h h.program)
    ≡ map (answer_under h) rows)
