-- The header of a line number program (DWARF 5, 6.2.4; versions 2 to 4: DWARF 4, 6.2.4).
use Rattle.std.specs.Prelude.{◌≡◌, ℕ, ◌+◌, ◌-◌, ◌<◌, ◌≤◌, ◌==◌, ◌||◌, nat_le, Bool, IsTrue, List, [], ◌∷◌, ◌++◌, Option, slice_get, if◌then◌else◌}
use Rattle.gimli_units_headers.specs.View.{View, bytes_left}
use Rattle.gimli_units_headers.specs.Encoding.{Encoding}
use Rattle.gimli_units_headers.specs.LineEncoding.{LineEncoding}
use Rattle.gimli_units_headers.specs.NumberParsers.{is_address_size}
use Rattle.gimli_units_forms.specs.AttributeValues.{RawValue}
use Rattle.gimli_lines_header.specs.declared.formats.FileEntryFormat.{FileEntryFormat}
use Rattle.gimli_lines_header.specs.LineFiles.{FileFacts, has_content}

-- A header and the bytes of its program: where it is in `.debug_line`, its fields in order, and
-- what its unit gives: directory 0 and file 0, which count up to version 4. In version 5 the fields
-- of directories and of files have formats.
pub record LineHeader : Type 0 where
  pub offset : ℕ
  pub unit_length : ℕ
  pub encoding : Encoding
  pub header_length : ℕ
  pub line_encoding : LineEncoding
  pub opcode_base : ℕ
  pub standard_opcode_lengths : View
  pub directory_formats : List FileEntryFormat
  pub directories : List RawValue
  pub file_formats : List FileEntryFormat
  pub files : List FileFacts
  pub program : View
  pub unit_directory : Option RawValue
  pub unit_file : Option FileFacts

-- numbered from 1 on, where number 0 is the unit's, or from 0 on
abbrev pub from_1 : {A : Type 0} → Option A → List A → ℕ → Option A
from_1 zeroth items n = if n == 0 then zeroth else slice_get items (n - 1)

-- the item of a number: up to version 4 they count from 1 on
abbrev pub item_at : {A : Type 0} → ℕ → Option A → List A → ℕ → Option A
item_at version zeroth items n =
    if nat_le version 4 then from_1 zeroth items n else slice_get items n

-- the directory of a number (DWARF 5, 6.2.4.1; up to version 4 directory 0 is the unit's)
abbrev pub directory_at : LineHeader → ℕ → Option RawValue
directory_at h n = item_at h.encoding.version h.unit_directory h.directories n

-- the file of a number (up to version 4 file 0 is the unit's)
abbrev pub file_at : LineHeader → ℕ → Option FileFacts
file_at h n = item_at h.encoding.version h.unit_file h.files n

-- files have a field of this content, which all have up to version 4
abbrev pub files_have : ℕ → LineHeader → Bool
files_have content h = nat_le h.encoding.version 4 || has_content content h.file_formats

-- a further file after the others
abbrev pub with_file : FileFacts → LineHeader → LineHeader
with_file file h = record h { files = h.files ++ file ∷ [] }

-- what holds of the fields of every header that is read
pub record IsWellFormed (encoding : Encoding) (line_encoding : LineEncoding) (opcode_base : ℕ)
    (standard_opcode_lengths : View) (file_formats : List FileEntryFormat) : Type 0 where
  pub first_version : 2 ≤ encoding.version
  pub last_version : encoding.version ≤ 5
  pub has_address_size : IsTrue (is_address_size encoding.address_size)
  pub has_instructions : 0 < line_encoding.minimum_instruction_length
  pub has_operations : 0 < line_encoding.maximum_operations_per_instruction
  pub has_lines : 0 < line_encoding.line_range
  pub has_opcodes : 0 < opcode_base
  -- a length for each standard opcode, which are those from 1 on below the base
  pub each_opcode : bytes_left standard_opcode_lengths + 1 ≡ opcode_base
  pub formats_of_5 : encoding.version ≤ 4 → file_formats ≡ []
