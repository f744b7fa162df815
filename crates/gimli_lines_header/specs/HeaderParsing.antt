-- How the header of a line number program is read (DWARF 5, 6.2.4; versions 2 to 4: DWARF 4,
-- 6.2.4).
use Rattle.std.specs.Prelude.{ℕ, ◌-◌, ◌==◌, ◌&&◌, not, nat_le, Option, option_map, Result}
use Rattle.std.specs.Int.{w8}
use Rattle.gimli_units_headers.specs.Error.{Error}
use Rattle.gimli_units_headers.specs.Error.TheVariants.{UnknownVersion, UnsupportedSegmentSize, MinimumInstructionLengthZero, MaximumOperationsPerInstructionZero, LineRangeZero, OpcodeBaseZero}
use Rattle.gimli_units_headers.specs.View.{View}
use Rattle.gimli_units_headers.specs.Parsers.{Parser, ◌>>=◌, ◌>>◌, give, fail, branch, demand, here, part, skip, within, value_of}
use Rattle.gimli_units_headers.specs.Encoding.{Encoding}
use Rattle.gimli_units_headers.specs.Format.{Format}
use Rattle.gimli_units_headers.specs.LineEncoding.{LineEncoding}
use Rattle.gimli_units_headers.specs.NumberParsers.{fixed, fixed_signed, initial_length, word, address_size}
use Rattle.gimli_units_forms.specs.AttributeValues.{string}
use Rattle.gimli_lines_header.specs.LineFiles.{file_named}
use Rattle.gimli_lines_header.specs.LineHeaders.{LineHeader}
use Rattle.gimli_lines_header.specs.HeaderTables.{directories, files}

-- What the unit of a program gives: the bytes of an address, which headers have from version 5 on,
-- its directory and its name.
pub record LineUnit : Type 0 where
  pub address_bytes : ℕ
  pub directory : Option View
  pub name : Option View

-- The same, where the texts are readers with these views.
abbrev pub line_unit : {R : Type 0} → (R → View) → ℕ → Option R → Option R → LineUnit
line_unit view address_bytes directory name = record {
  address_bytes = address_bytes;
  directory = option_map view directory;
  name = option_map view name;
}

-- ---- fields

-- in version 5 the size of an address, and that of a segment selector, which has none
unfoldable pub encoding_of_5 : Format → Parser Encoding
encoding_of_5 format = do
  size ← address_size
  segment ← fixed 1
  demand (segment == 0) UnsupportedSegmentSize
  give (record { address_size = size; format = format; version = 5 })

-- the version, and the sizes of fields
unfoldable pub line_sizes : Format → ℕ → Parser Encoding
line_sizes format address_bytes = do
  version ← fixed 2
  branch (nat_le 2 version && nat_le version 4)
      (give (record { address_size = address_bytes; format = format; version = version }))
      (branch (version == 5) (encoding_of_5 format) (fail (UnknownVersion version)))

-- the operations of an instruction: a field from version 4 on
unfoldable pub operations_of_4 : Parser ℕ
operations_of_4 = do
  operations ← fixed 1
  demand (not (operations == 0)) MaximumOperationsPerInstructionZero
  give operations

-- the operations of an instruction, in every version
unfoldable pub operations : ℕ → Parser ℕ
operations version = branch (nat_le 4 version) operations_of_4 (give 1)

-- the parameters of special opcodes
unfoldable pub line_parameters : ℕ → Parser LineEncoding
line_parameters version = do
  instruction ← fixed 1
  demand (not (instruction == 0)) MinimumInstructionLengthZero
  most ← operations version
  is_stmt ← fixed 1
  base ← fixed_signed w8
  range ← fixed 1
  demand (not (range == 0)) LineRangeZero
  give (record {
    minimum_instruction_length = instruction;
    maximum_operations_per_instruction =
        most;
    default_is_stmt = not (is_stmt == 0);
    line_base = base;
    line_range = range;
  })

-- the first special opcode, and a byte for each standard opcode, which are those from 1 on below it
unfoldable pub opcodes : Parser (ℕ × View)
opcodes = do
  base ← fixed 1
  demand (not (base == 0)) OpcodeBaseZero
  lengths ← part (base - 1)
  give (base, lengths)

-- ---- the header

-- what is known of a header before its fields: its place, its lengths, and where the program is
pub record Bounds : Type 0 where
  pub offset : ℕ
  pub unit_length : ℕ
  pub encoding : Encoding
  pub header_length : ℕ
  pub program : View

-- the fields of a header, in order
unfoldable pub header_fields : ℕ → Option View → Option View → Bounds → Parser LineHeader
header_fields limit directory name b = do
  parameters ← line_parameters b.encoding.version
  base ← opcodes
  ds ← directories limit b.encoding
  fs ← files limit b.encoding
  give (record {
    offset = b.offset;
    unit_length = b.unit_length;
    encoding = b.encoding;
    header_length = b.header_length;
    line_encoding = parameters;
    opcode_base = base.0;
    standard_opcode_lengths = base.1;
    directory_formats = ds.0;
    directories = ds.1;
    file_formats = fs.0;
    files = fs.1;
    program = b.program;
    unit_directory = option_map string directory;
    unit_file = option_map file_named name;
  })

-- A header after its length: a second length bounds its fields, and the program is what follows
-- those bytes, whatever the fields take.
unfoldable pub header_in : ℕ → ℕ → LineUnit → ℕ → Format → Parser LineHeader
header_in limit offset unit unit_length format = do
  e ← line_sizes format unit.address_bytes
  header_length ← word limit format
  header ← part header_length
  program ← here
  within header (header_fields limit unit.directory unit.name
      (record {
        offset = offset;
        unit_length = unit_length;
        encoding = e;
        header_length = header_length;
        program = program;
      }))

-- the header that begins at an offset: a length, and a header and its program in as many bytes
unfoldable pub line_header : ℕ → ℕ → LineUnit → Parser LineHeader
line_header limit offset unit = do
  l ← initial_length limit
  bytes ← part l.0
  within bytes (header_in limit offset unit l.0 l.1)

-- the header at an offset of `.debug_line`
abbrev pub header_at : ℕ → ℕ → LineUnit → View → Result LineHeader Error
header_at limit offset unit section =
    value_of ((skip offset >> line_header limit offset unit) section)
