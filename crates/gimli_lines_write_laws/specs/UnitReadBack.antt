-- A unit that was written reads back (DWARF 5, 6.2.4).
use Rattle.std.specs.Prelude.{◌≡◌, ℕ, ◌+◌, ◌<◌, ◌^◌, Bool, List, ◌++◌, All, length, map, Ok}
use Rattle.gimli_lines_write_unit.specs.LineRules.{LineRules}
use Rattle.gimli_lines_write_unit.specs.Registers.{Registers}
use Rattle.gimli_lines_rows.specs.Error.{Error as ReadError}
use Rattle.gimli_lines_rows.specs.LineHeaders.{LineHeader}
use Rattle.gimli_lines_rows.specs.ProgramInstructions.{rules_of}
use Rattle.gimli_lines_rows.specs.ProgramRows.{Row, rows_to_come}
use Rattle.gimli_lines_rows.specs.RowSequences.{rows_under}
use Rattle.gimli_lines_write_unit.specs.HeaderParsing.{LineUnit, line_header}
use Rattle.gimli_lines_write_unit.specs.FileTables.{Text, in_header, of_strings, of_line_strings, HasNoZero, HasBytes}
use Rattle.gimli_lines_write_unit.specs.EntryFields.{WrittenFile, IsDigest}
use Rattle.gimli_lines_write_unit.specs.HeaderSpelling.{Tables, fields_at, header_value}
use Rattle.gimli_lines_write_unit.specs.WriteError.{Error}
use Rattle.gimli_lines_write_unit.specs.Address.{Address}
use Rattle.gimli_lines_write_unit.specs.Address.TheVariants.{Constant}
use Rattle.gimli_lines_write_unit.specs.LineEntry.{LineEntry}
use Rattle.gimli_lines_write_unit.specs.BuiltRows.{first_row, follows, rows_of, IsReadable}
use Rattle.gimli_lines_write_unit.specs.RowPieces.{IsBuildable}
use Rattle.gimli_lines_write_unit.specs.UnitBytes.{unit_bytes}
use Rattle.std.specs.Prelude.{◌≤◌, ◌&&◌, not, nat_le, [], true, false, Result}
use Rattle.gimli_lines_write_unit.specs.BytesAt.{bytes_at}

-- an offset that a reader can hold
abbrev pub IsBelow : ℕ → Text → Type 0
IsBelow limit (in_header text) = Unit {0}
IsBelow limit (of_strings offset) = offset < limit
IsBelow limit (of_line_strings offset) = offset < limit

-- the offsets of a file's texts are below a limit
pub record FileBelow (limit : ℕ) (f : WrittenFile) : Type 0 where
  pub path : IsBelow limit f.path
  pub source : IsBelow limit f.source

-- what is recorded of a file: numbers of 64 bits, a digest of sixteen bytes, and a text without a
-- zero byte
pub record FileReadsBack (f : WrittenFile) : Type 0 where
  pub path : HasNoZero f.path
  pub directory : f.directory < 2 ^ 64
  pub timestamp : f.timestamp < 2 ^ 64
  pub size : f.size < 2 ^ 64
  pub md5 : IsDigest f.md5
  pub source : HasNoZero f.source

-- the header records the texts of files
abbrev pub records_sources : ℕ → Tables → Bool
records_sources version t = not (nat_le version 4) && t.details.has_source

-- Tables that can be read again: texts in the header hold no zero byte, and up to version 4 aren't
-- empty.
pub record TablesReadBack (version : ℕ) (t : Tables) : Type 0 where
  pub directories : All HasNoZero t.directories
  pub files : All FileReadsBack t.files
  -- texts of files that aren't recorded are empty
  pub no_sources : records_sources version t ≡ false
      → All (λ (f : WrittenFile). f.source ≡ in_header []) t.files
  pub directories_not_empty : version ≤ 4 → All HasBytes t.directories
  pub paths_not_empty : version ≤ 4 → All (λ (f : WrittenFile). HasBytes f.path) t.files

-- a row that a reader of rows answers, with its header
abbrev pub answer_under : LineHeader → Registers → Result Row ReadError
answer_under h r = Ok (record { header = h; registers = r })

-- A reader of a header's program, of these rules and bytes, answers exactly these rows.
abbrev pub AnswersRows : LineRules → Bool → List ℕ → List Registers → Type 0
AnswersRows rules is_big program rows = (limit : ℕ) (takes_files : Bool) (h : LineHeader)
    → 128 ≤ limit → rules_of h ≡ rules → h.program.is_big ≡ is_big → h.program.bytes ≡ program
    → rows_to_come limit (rows_under takes_files h h.program) ≡ map (answer_under h) rows

-- The bytes read as a header with these tables, whatever follows them, for each reader that can
-- hold their length and the offsets of texts; and the header's program reads as the rows.
pub record UnitDecodesTo (rules : LineRules) (is_big : Bool) (t : Tables) (bytes : List ℕ)
    (rows : List Registers) : Type 0 where
  pub program : List ℕ
  pub header : (limit offset first : ℕ) (unit : LineUnit) (rest : List ℕ) → length bytes < limit
      → All (IsBelow limit) t.directories → All (FileBelow limit) t.files
      → unit.address_bytes ≡ rules.encoding.address_size
      → line_header limit offset unit (bytes_at is_big first (bytes ++ rest))
      ≡ Ok (
        header_value rules is_big offset (fields_at rules is_big first t program) unit t
            program,
        bytes_at is_big (first + length bytes) rest,
      )
  pub runs : AnswersRows rules is_big program rows

-- Where a unit was written, it is read again with the tables that were recorded, and its program as
-- the rows.
abbrev pub UnitReadsBack : Type 0
UnitReadsBack =
    (address_of : Address → Result ℕ Error) (rules : LineRules) (t : Tables)
    (entries : List LineEntry) (is_big : Bool) (bytes : List ℕ)
    → ((n : ℕ) → address_of (Constant n) ≡ Ok n) → IsBuildable rules
    → rules.line_encoding.minimum_instruction_length < 256
    → rules.line_encoding.maximum_operations_per_instruction < 256
    → TablesReadBack rules.encoding.version t → follows rules (first_row rules) entries ≡ true
    → IsReadable rules 0 (first_row rules) entries
    → unit_bytes address_of is_big rules t entries ≡ Ok bytes
    → UnitDecodesTo rules is_big t bytes (rows_of rules entries)
