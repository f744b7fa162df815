-- What is written of a header reads back.
use Rattle.std.specs.Prelude.{◌≡◌, ℕ, ◌+◌, ◌<◌, ◌≤◌, Bool, List, ◌++◌, All, length, Ok}
use Rattle.gimli_lines_write_rows.specs.LineRules.{LineRules}
use Rattle.gimli_lines_write_rows.specs.RowPieces.{IsBuildable}
use Rattle.gimli_lines_header.specs.HeaderParsing.{LineUnit, line_header}
use Rattle.gimli_lines_write_spec.specs.HeaderTexts.{Text, form_of, form_in, IsReadableText, IsEntry}
use Rattle.gimli_lines_write_spec.specs.EntryFields.{WrittenFile, IsReadableFile}
use Rattle.gimli_lines_write_spec.specs.HeaderSpelling.{Tables, path_form, source_form, spelled_body, spelled_unit, fields_at, header_value}
use Rattle.gimli_lines_write_rows.specs.BytesAt.{bytes_at}
use Rattle.gimli_lines_write_rows.specs.NumberBytes.{length_limit}

-- up to version 4 each text is in its place, and none is empty
pub record FitsVersion4 (t : Tables) : Type 0 where
  pub directories : All IsEntry t.directories
  pub paths : All (λ (f : WrittenFile). IsEntry f.path) t.files

-- in version 5 the texts of a list have one form
pub record FitsVersion5 (t : Tables) : Type 0 where
  pub directories : All (λ (d : Text). form_of d ≡ form_in t.directories) t.directories
  pub paths : All (λ (f : WrittenFile). form_of f.path ≡ path_form t) t.files
  pub sources : All (λ (f : WrittenFile). form_of f.source ≡ source_form t) t.files

-- A unit that can be written: parameters and tables that a header can express, and a length that
-- the format can express.
pub record CanWrite (limit : ℕ) (rules : LineRules) (is_big : Bool) (t : Tables)
    (program : List ℕ) : Type 0 where
  pub not_before_2 : 2 ≤ rules.encoding.version
  pub not_after_5 : rules.encoding.version ≤ 5
  pub buildable : IsBuildable rules
  pub instruction_is_byte : rules.line_encoding.minimum_instruction_length < 256
  pub operations_are_byte : rules.line_encoding.maximum_operations_per_instruction < 256
  pub one_operation : rules.encoding.version ≤ 3
      → rules.line_encoding.maximum_operations_per_instruction ≡ 1
  pub directories : All (IsReadableText limit rules.encoding.format) t.directories
  pub files : All (IsReadableFile limit rules.encoding.format) t.files
  pub to_4 : rules.encoding.version ≤ 4 → FitsVersion4 t
  pub in_5 : 4 < rules.encoding.version → FitsVersion5 t
  pub length_fits : length (spelled_body rules is_big t program)
      < length_limit rules.encoding.format
  pub small : length (spelled_body rules is_big t program) < limit

-- The header at an offset, of a unit with addresses of the encoding's size; and what follows the
-- program is left.
abbrev pub HeaderReadsBack : Type 0
HeaderReadsBack =
    (limit offset : ℕ) (rules : LineRules) (is_big : Bool) (first : ℕ) (unit : LineUnit)
    (t : Tables) (program rest : List ℕ)
    → CanWrite limit rules is_big t program → unit.address_bytes ≡ rules.encoding.address_size
    → line_header limit offset unit
    (bytes_at is_big first (spelled_unit rules is_big t program ++ rest))
    ≡ Ok (
      header_value rules is_big offset (fields_at rules is_big first t program) unit t program,
      bytes_at is_big (first + length (spelled_unit rules is_big t program)) rest,
    )
