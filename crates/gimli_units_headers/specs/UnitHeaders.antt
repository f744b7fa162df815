-- Unit headers (DWARF 5, 7.5.1; versions 2 to 4: DWARF 4, 7.5.1.1). A section of units is headers
-- with their entries end to end, from its start to its end or to the first fault.
use Rattle.std.specs.Prelude.{◌≡◌, ℕ, ◌+◌, ◌-◌, ◌<◌, ◌==◌, ◌&&◌, nat_le, IsTrue, List, Option, Result, if◌then◌else◌}
use Rattle.gimli_core_base.specs.declared.constants.TheConstants.{DW_UT_compile, DW_UT_type, DW_UT_partial, DW_UT_skeleton, DW_UT_split_compile, DW_UT_split_type}
use Rattle.gimli_core_base.specs.declared.error.Error.{Error}
use Rattle.gimli_core_base.specs.declared.error.Error.TheVariants.{UnknownVersion, UnsupportedUnitType}
use Rattle.gimli_core_base.specs.View.{View, bytes_left}
use Rattle.gimli_core_base.specs.Parsers.{Parser, ◌>>=◌, give, fail, branch, here}
use Rattle.gimli_core_base.specs.Repetition.{Listing}
use Rattle.gimli_core_base.specs.declared.common.Format.{Format}
use Rattle.gimli_core_base.specs.declared.common.Encoding.{Encoding}
use Rattle.gimli_core_base.specs.FormatSizes.{initial_length_size, word_size}
use Rattle.gimli_core_base.specs.NumberParsers.{fixed, word, address_size, is_address_size}
use Rattle.gimli_core_readers.specs.Tiling.{RemainingSection, whole_section, next_part, parts_to_come}
use Rattle.gimli_units_headers.specs.SectionParts.{counted_part, part_lookup}

-- what a unit is, and what its header says for that (DWARF 5, 7.5.1.1 to 7.5.1.3)
pub data UnitKind : Type 0 where
  compilation : UnitKind
  type_unit : (signature offset : ℕ) → UnitKind
  partial : UnitKind
  skeleton : (dwo_id : ℕ) → UnitKind
  split_compilation : (dwo_id : ℕ) → UnitKind
  split_type : (signature offset : ℕ) → UnitKind

-- a unit: its offset in the section, what its header says, and the bytes of its entries
pub record DebugUnit : Type 0 where
  pub offset : ℕ
  pub unit_length : ℕ
  pub encoding : Encoding
  pub kind : UnitKind
  pub abbrev_offset : ℕ
  pub entries : View

-- ---- the fields, in order

-- a unit type of the standard: those from compile to split type
unfoldable pub unit_type : Parser ℕ
unit_type = do
  t ← fixed 1
  branch (nat_le DW_UT_compile.0 t && nat_le t DW_UT_split_type.0) (give t)
      (fail (UnsupportedUnitType (record { 0 = t })))

-- the identifier of a skeleton and its split unit
unfoldable pub with_dwo_id : (ℕ → UnitKind) → Parser UnitKind
with_dwo_id kind = do
  id ← fixed 8
  give (kind id)

-- a type's signature, and its offset in the unit
unfoldable pub with_signature : ℕ → Format → (ℕ → ℕ → UnitKind) → Parser UnitKind
with_signature limit format kind = do
  signature ← fixed 8
  offset ← word limit format
  give (kind signature offset)

-- what a unit type adds to the header
unfoldable pub kind_of_type : ℕ → Format → ℕ → Parser UnitKind
kind_of_type limit format t =
    branch (t == DW_UT_compile.0) (give compilation)
    (branch (t == DW_UT_type.0) (with_signature limit format type_unit)
    (branch (t == DW_UT_partial.0) (give partial)
    (branch (t == DW_UT_skeleton.0) (with_dwo_id skeleton)
    (branch (t == DW_UT_split_compile.0) (with_dwo_id split_compilation)
    (with_signature limit format split_type)))))

-- what a header says after its length
pub record HeaderFields : Type 0 where
  pub encoding : Encoding
  pub kind : UnitKind
  pub abbrev_offset : ℕ

-- versions 2 to 4: every unit is of the type compile
unfoldable pub fields_to_4 : ℕ → Format → ℕ → Parser HeaderFields
fields_to_4 limit format version = do
  abbrev_offset ← word limit format
  size ← address_size
  give (record {
    encoding = record { address_size = size; format = format; version = version };
    kind = compilation;
    abbrev_offset = abbrev_offset;
  })

-- version 5
unfoldable pub fields_of_5 : ℕ → Format → Parser HeaderFields
fields_of_5 limit format = do
  t ← unit_type
  size ← address_size
  abbrev_offset ← word limit format
  kind ← kind_of_type limit format t
  give (record {
    encoding = record { address_size = size; format = format; version = 5 };
    kind = kind;
    abbrev_offset = abbrev_offset;
  })

-- the version decides
unfoldable pub unit_fields : ℕ → Format → Parser HeaderFields
unit_fields limit format = do
  version ← fixed 2
  branch (nat_le 2 version && nat_le version 4) (fields_to_4 limit format version)
      (branch (version == 5) (fields_of_5 limit format) (fail (UnknownVersion version)))

-- ---- one unit

-- the fields of a unit, and the entries after them
unfoldable pub unit_in : ℕ → ℕ → ℕ → Format → Parser DebugUnit
unit_in limit offset unit_length format = do
  fields ← unit_fields limit format
  entries ← here
  give (record {
    offset = offset;
    unit_length = unit_length;
    encoding = fields.encoding;
    kind = fields.kind;
    abbrev_offset = fields.abbrev_offset;
    entries = entries;
  })

-- the unit that begins at an offset: a length n, and a unit in the n bytes after it
abbrev pub unit : ℕ → ℕ → Parser DebugUnit
unit limit = counted_part limit (unit_in limit)

-- ---- a section of units

-- the next unit, none at the section's end
abbrev pub next_unit : ℕ → RemainingSection → Result (Option DebugUnit × View) Error
next_unit limit s = next_part (unit limit) s

-- the units from there on, and what ends them: the section's end, or the first fault
abbrev pub units_to_come : ℕ → RemainingSection → Listing View DebugUnit
units_to_come limit s = parts_to_come (unit limit) s

-- the units of a section
abbrev pub units_of : ℕ → View → List DebugUnit
units_of limit section = (units_to_come limit (whole_section section)).items

-- the unit at an offset of a section
abbrev pub unit_at : ℕ → ℕ → View → Result DebugUnit Error
unit_at limit offset section = part_lookup (unit limit) offset section

-- ---- sizes

-- the bytes of a unit, its length field included
abbrev pub length_including_self : DebugUnit → ℕ
length_including_self u = initial_length_size u.encoding.format + u.unit_length

-- the bytes before the entries
abbrev pub header_size : DebugUnit → ℕ
header_size u = length_including_self u - bytes_left u.entries

-- the bytes that a unit's type adds to the header
abbrev pub kind_size : Format → UnitKind → ℕ
kind_size format compilation = 0
kind_size format (type_unit signature offset) = 8 + word_size format
kind_size format partial = 0
kind_size format (skeleton dwo_id) = 8
kind_size format (split_compilation dwo_id) = 8
kind_size format (split_type signature offset) = 8 + word_size format

-- the bytes of the fields after the length: version, from version 5 on the unit type, the address
-- size, the offset of the abbreviations, and what the type adds
abbrev pub fields_size : Encoding → UnitKind → ℕ
fields_size e kind =
    2 + (if e.version == 5 then 1 else 0) + 1 + word_size e.format + kind_size e.format kind

-- the bytes of the header, counted by its fields
abbrev pub size_of_header : DebugUnit → ℕ
size_of_header u = initial_length_size u.encoding.format + fields_size u.encoding u.kind

-- what holds of every unit that is read: its fields and its entries are all its bytes, and its end
-- is an offset of the section
pub record IsWellFormed (limit : ℕ) (u : DebugUnit) : Type 0 where
  pub has_address_size : IsTrue (is_address_size u.encoding.address_size)
  pub is_whole : size_of_header u + bytes_left u.entries ≡ length_including_self u
  pub fits : u.offset + length_including_self u < limit
