-- What values of attributes stand for in their sections (DWARF 5, 7.5.5): texts, addresses, range
-- lists.
use Rattle.std.specs.Prelude.{ℕ, nat_lt, Bool, false, List, Option, Some, None, Result, Ok, Err, if◌then◌else◌}
use Rattle.gimli_units_entries.specs.Error.{Error}
use Rattle.gimli_units_entries.specs.Results.{some_of, ◌>>=◌}
use Rattle.gimli_units_entries.specs.Error.TheVariants.{ExpectedStringAttributeValue}
use Rattle.gimli_units_entries.specs.View.{View}
use Rattle.gimli_units_entries.specs.DwarfFileType.{DwarfFileType}
use Rattle.gimli_units_entries.specs.DwarfFileType.TheVariants.{Main, Dwo}
use Rattle.gimli_units_entries.specs.Encoding.{Encoding}
use Rattle.gimli_units_lists.specs.SectionReads.{string_at, table_offset_at, address_at}
use Rattle.gimli_units_lists.specs.Range.{Range}
use Rattle.gimli_lines_header.specs.AttributeValues.{RawValue, address, address_index, range_lists_reference, range_lists_index, string, string_reference, string_reference_sup, string_offsets_index, line_string_reference}
use Rattle.gimli_units_lists.specs.ListSections.{RemainingRanges, ranges_at, ranges_to_come, from_low_pc, list_offset_at, offset_from_base}
use Rattle.gimli_dwarf_spec.specs.DwarfFiles.{DwarfFile, supplement}

-- What a unit's header and root say that its attributes depend on: sizes, and where its tables
-- begin.
pub record Bases : Type 0 where
  pub encoding : Encoding
  pub low_pc : ℕ
  pub str_offsets_base : ℕ
  pub addr_base : ℕ
  pub loclists_base : ℕ
  pub rnglists_base : ℕ

-- ---- texts

-- a string of the supplement's `.debug_str`
abbrev pub supplement_string : ℕ → Option DwarfFile → Result View Error
supplement_string offset None = Err ExpectedStringAttributeValue
supplement_string offset (Some s) = string_at offset s.sections.debug_str

-- the text of a value, where it is one: in the entry, in a section of strings by an offset or an
-- index, or in the supplement's
abbrev pub attr_string : DwarfFile → Bases → RawValue → Result View Error
attr_string file b (string text) = Ok text
attr_string file b (string_reference offset) = string_at offset file.sections.debug_str
attr_string file b (line_string_reference offset) = string_at offset file.sections.debug_line_str
attr_string file b (string_offsets_index index) = do
  let offsets = file.sections.debug_str_offsets
  offset ← table_offset_at file.offset_limit b.encoding.format b.str_offsets_base index offsets
  string_at offset file.sections.debug_str
attr_string file b (string_reference_sup offset) = supplement_string offset (supplement file)
attr_string file b _ = Err ExpectedStringAttributeValue

-- ---- addresses

-- the address of an index
abbrev pub indexed_address : DwarfFile → Bases → ℕ → Result ℕ Error
indexed_address file b index =
    address_at b.encoding.address_size b.addr_base index file.sections.debug_addr

-- the address of a value, where it is one
abbrev pub attr_address : DwarfFile → Bases → RawValue → Result (Option ℕ) Error
attr_address file b (address a) = Ok (Some a)
attr_address file b (address_index index) = some_of (indexed_address file b index)
attr_address file b _ = Ok None

-- ---- ranges

-- Up to version 4 a split file's offsets of range lists count from a base that its main file names.
abbrev pub counts_from_base : DwarfFileType → Encoding → Bool
counts_from_base Main e = false
counts_from_base Dwo e = nat_lt e.version 5

-- an offset in an attribute, as an offset in its section
abbrev pub ranges_offset_from_raw : DwarfFile → Bases → ℕ → Result ℕ Error
ranges_offset_from_raw file b offset =
    if counts_from_base file.sections.file_type b.encoding
    then offset_from_base file.offset_limit b.rnglists_base offset else Ok offset

-- the offset of the list of an index (DWARF 5, 7.28)
abbrev pub ranges_offset : DwarfFile → Bases → ℕ → Result ℕ Error
ranges_offset file b index =
    list_offset_at file.offset_limit b.encoding.format b.rnglists_base index
    file.sections.ranges.debug_rnglists

-- the offset of the list that a value stands for, where it stands for one
abbrev pub attr_ranges_offset : DwarfFile → Bases → RawValue → Result (Option ℕ) Error
attr_ranges_offset file b (range_lists_reference offset) =
    some_of (ranges_offset_from_raw file b offset)
attr_ranges_offset file b (range_lists_index index) = some_of (ranges_offset file b index)
attr_ranges_offset file b _ = Ok None

-- the list at an offset, before its first range
abbrev pub ranges : DwarfFile → Bases → ℕ → Result RemainingRanges Error
ranges file b offset =
    ranges_at b.encoding offset
    (from_low_pc b.encoding b.low_pc b.addr_base file.sections.debug_addr) file.sections.ranges

-- its ranges, and the faults in their places
abbrev pub ranges_of_list : DwarfFile → Bases → ℕ → Result (List (Result Range Error)) Error
ranges_of_list file b offset = do
  r ← ranges file b offset
  Ok (ranges_to_come file.offset_limit r)
