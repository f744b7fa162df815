-- The facts of a unit, from the attributes of its root entry (DWARF 5, 3.1.1).
use Rattle.std.specs.Prelude.{ℕ, ◌==◌, ◌||◌, nat_lt, Bool, List, Option, Some, None, option_map, option_and_then, unwrap_or, Result, Ok, Err, if◌then◌else◌}
use Rattle.std.specs.List.{filter_map, last_or}
use Rattle.std.specs.Option.{option_or}
use Rattle.gimli_units_entries.specs.Error.{Error}
use Rattle.gimli_units_entries.specs.Error.TheVariants.{MissingUnitDie}
use Rattle.gimli_units_entries.specs.View.{View, bytes_left}
use Rattle.gimli_units_entries.specs.Parsers.{value_of}
use Rattle.gimli_units_entries.specs.DwarfFileType.{DwarfFileType}
use Rattle.gimli_units_entries.specs.Encoding.{Encoding}
use Rattle.gimli_units_entries.specs.TheConstants.{DW_AT_name, DW_AT_comp_dir, DW_AT_low_pc, DW_AT_stmt_list, DW_AT_str_offsets_base, DW_AT_addr_base, DW_AT_GNU_addr_base, DW_AT_loclists_base, DW_AT_rnglists_base, DW_AT_GNU_ranges_base, DW_AT_GNU_dwo_id, DW_AT_GNU_dwo_name, DW_AT_dwo_name}
use Rattle.gimli_units_lists.specs.DefaultBases.{default_base, string_offsets_header_size, lists_header_size}
use Rattle.gimli_lines_header.specs.Declarations.{Declaration}
use Rattle.gimli_lines_header.specs.TableParsing.{table_at}
use Rattle.gimli_lines_header.specs.AttributeMeanings.{if_readable, value_under}
use Rattle.gimli_lines_header.specs.AttributeValues.{RawValue, RawAttribute, address_base, line_reference, location_lists_base, range_lists_base, string_offsets_base, dwo_id}
use Rattle.gimli_lines_header.specs.UnitHeaders.{DebugUnit, UnitKind, skeleton, split_compilation}
use Rattle.gimli_units_entries.specs.EntryRows.{Row, row}
use Rattle.gimli_units_entries.specs.EntryViews.{attribute_named}
use Rattle.gimli_units_entries.specs.UnitEntries.{walk_before}
use Rattle.gimli_lines_header.specs.LineHeaders.{LineHeader}
use Rattle.gimli_lines_header.specs.HeaderParsing.{LineUnit, header_at}
use Rattle.gimli_dwarf_spec.specs.DwarfFiles.{DwarfFile}
use Rattle.gimli_units_entries.specs.Results.{and_then, ◌>>=◌}
use Rattle.gimli_dwarf_spec.specs.Attributes.{Bases, attr_string, attr_address}

-- A unit: its header, the declarations of its entries, its name and directory where they can be
-- read, what its attributes depend on, the header of its line number program, and the identifier
-- that it shares with another file's unit.
pub record UnitFacts : Type 0 where
  pub header : DebugUnit
  pub table : List Declaration
  pub name : Option View
  pub comp_dir : Option View
  pub bases : Bases
  pub line_header : Option LineHeader
  pub dwo_id : Option ℕ

-- a unit in its file
pub record UnitInFile : Type 0 where
  pub file : DwarfFile
  pub facts : UnitFacts

abbrev pub in_file : DwarfFile → UnitFacts → UnitInFile
in_file file u = record { file = file; facts = u }

-- ---- the root

abbrev pub unless_null : Row → Result Row Error
unless_null r = if r.tag == 0 then Err MissingUnitDie else Ok r

-- the first entry of a unit, which must be there and not null
abbrev pub root : ℕ → DebugUnit → List Declaration → Result Row Error
root limit u table =
    if bytes_left u.entries == 0 then Err MissingUnitDie
    else and_then (value_of (row limit (walk_before u table u.entries))) unless_null

-- ---- values by name

-- what an attribute says, where its name passes the test and its value is of a kind
abbrev pub value_of_kind : {A : Type 0} → (RawValue → Option A) → (ℕ → Bool) → RawAttribute
    → Option A
value_of_kind kind is_name a = if is_name a.name then kind (value_under a.name a.value) else None

-- the last such
abbrev pub last_value_of_kind : {A : Type 0} → (RawValue → Option A) → (ℕ → Bool)
    → List RawAttribute → Option A
last_value_of_kind kind is_name attributes =
    last_or None (filter_map (value_of_kind kind is_name) attributes)

-- the value of the last attribute whose name passes, of whatever kind
abbrev pub any_value : RawValue → Option RawValue
any_value v = Some v

abbrev pub last_value : (ℕ → Bool) → List RawAttribute → Option RawValue
last_value is_name attributes = last_value_of_kind any_value is_name attributes

-- ---- names (DWARF 5, 7.5.4)

abbrev pub is_name : ℕ → Bool
is_name n = n == DW_AT_name.0

abbrev pub is_comp_dir : ℕ → Bool
is_comp_dir n = n == DW_AT_comp_dir.0

abbrev pub is_low_pc : ℕ → Bool
is_low_pc n = n == DW_AT_low_pc.0

abbrev pub is_stmt_list : ℕ → Bool
is_stmt_list n = n == DW_AT_stmt_list.0

abbrev pub is_str_offsets_base : ℕ → Bool
is_str_offsets_base n = n == DW_AT_str_offsets_base.0

abbrev pub is_addr_base : ℕ → Bool
is_addr_base n = n == DW_AT_addr_base.0 || n == DW_AT_GNU_addr_base.0

abbrev pub is_loclists_base : ℕ → Bool
is_loclists_base n = n == DW_AT_loclists_base.0

abbrev pub is_rnglists_base : ℕ → Bool
is_rnglists_base n = n == DW_AT_rnglists_base.0 || n == DW_AT_GNU_ranges_base.0

abbrev pub is_dwo_id : ℕ → Bool
is_dwo_id n = n == DW_AT_GNU_dwo_id.0

-- ---- kinds of values

abbrev pub line_reference_of : RawValue → Option ℕ
line_reference_of (line_reference n) = Some n
line_reference_of _ = None

abbrev pub string_offsets_base_of : RawValue → Option ℕ
string_offsets_base_of (string_offsets_base n) = Some n
string_offsets_base_of _ = None

abbrev pub address_base_of : RawValue → Option ℕ
address_base_of (address_base n) = Some n
address_base_of _ = None

abbrev pub location_lists_base_of : RawValue → Option ℕ
location_lists_base_of (location_lists_base n) = Some n
location_lists_base_of _ = None

abbrev pub range_lists_base_of : RawValue → Option ℕ
range_lists_base_of (range_lists_base n) = Some n
range_lists_base_of _ = None

abbrev pub dwo_id_of : RawValue → Option ℕ
dwo_id_of (dwo_id n) = Some n
dwo_id_of _ = None

-- ---- the facts

-- The bases of a unit that these are named for, and the default ones where none is. Addresses of
-- entries count from 0 until low_pc is read.
abbrev pub bases_or_default : DwarfFileType → Encoding → Option ℕ → Option ℕ → Option ℕ → Option ℕ
    → Bases
bases_or_default file_type e str_offsets addr loclists rnglists = record {
  encoding = e;
  low_pc = 0;
  str_offsets_base =
      unwrap_or str_offsets (default_base e file_type (string_offsets_header_size e.format));
  addr_base = unwrap_or addr 0;
  loclists_base = unwrap_or loclists (default_base e file_type (lists_header_size e.format));
  rnglists_base = unwrap_or rnglists (default_base e file_type (lists_header_size e.format));
}

-- those that a root names
abbrev pub bases_of : DwarfFileType → Encoding → List RawAttribute → Bases
bases_of file_type e attributes =
    bases_or_default file_type e
    (last_value_of_kind string_offsets_base_of is_str_offsets_base attributes)
    (last_value_of_kind address_base_of is_addr_base attributes)
    (last_value_of_kind location_lists_base_of is_loclists_base attributes)
    (last_value_of_kind range_lists_base_of is_rnglists_base attributes)

-- the same with the address that a unit begins at
abbrev pub with_low_pc : ℕ → Bases → Bases
with_low_pc a b = record b { low_pc = a }

-- the text of a value, where there is one that can be read
abbrev pub readable_text : DwarfFile → Bases → Option RawValue → Option View
readable_text file b value = option_and_then (λ v. if_readable (attr_string file b v)) value

-- the address of a value; 0 where there is none
abbrev pub address_or_0 : DwarfFile → Bases → Option RawValue → Result ℕ Error
address_or_0 file b None = Ok 0
address_or_0 file b (Some v) = and_then (attr_address file b v) (λ a. Ok (unwrap_or a 0))

-- the header of a line number program, where a unit has one
abbrev pub line_header_of : DwarfFile → LineUnit → Option ℕ → Result (Option LineHeader) Error
line_header_of file unit None = Ok None
line_header_of file unit (Some offset) =
    and_then (header_at file.offset_limit offset unit file.sections.debug_line) (λ h. Ok (Some h))

-- the identifier in a header (DWARF 5, 7.5.1.2)
abbrev pub dwo_id_in : UnitKind → Option ℕ
dwo_id_in (skeleton id) = Some id
dwo_id_in (split_compilation id) = Some id
dwo_id_in _ = None

-- The facts of a unit whose root has these attributes. A refused line header comes before a refused
-- low_pc.
abbrev pub facts_of : DwarfFile → DebugUnit → List Declaration → List RawAttribute
    → Result UnitFacts Error
facts_of file u table attributes =
    let b = bases_of file.sections.file_type u.encoding attributes in
    let name = readable_text file b (last_value is_name attributes) in
    let comp_dir = readable_text file b (last_value is_comp_dir attributes) in
    let line_unit : LineUnit =
    record { address_bytes = u.encoding.address_size; directory = comp_dir; name = name } in
    let program = last_value_of_kind line_reference_of is_stmt_list attributes in
    do
      line_header ← line_header_of file line_unit program
      low_pc ← address_or_0 file b (last_value is_low_pc attributes)
      Ok (record {
        header = u;
        table = table;
        name = name;
        comp_dir = comp_dir;
        bases = with_low_pc low_pc b;
        line_header = line_header;
        dwo_id =
            option_or (dwo_id_in u.kind)
            (option_and_then dwo_id_of (last_value is_dwo_id attributes));
      })

-- The facts of a unit, or its refusal: of its declarations, of its root, of its line header, or of
-- its low_pc, in this order.
abbrev pub unit_facts : DwarfFile → DebugUnit → Result UnitFacts Error
unit_facts file u = do
  table ← table_at u.abbrev_offset file.sections.debug_abbrev
  r ← root file.offset_limit u table
  facts_of file u table r.attributes

-- The attribute that names the file of a unit's split part (DWARF 5, 3.1.2; before version 5
-- GNU's).
abbrev pub dwo_name_number : Encoding → ℕ
dwo_name_number e = if nat_lt e.version 5 then DW_AT_GNU_dwo_name.0 else DW_AT_dwo_name.0

-- the value of the first such attribute of the root, if there is one
abbrev pub dwo_name : ℕ → UnitFacts → Result (Option RawValue) Error
dwo_name limit u = do
  r ← root limit u.header u.table
  let name = attribute_named (dwo_name_number u.header.encoding) r
  Ok (option_map (λ a. value_under a.name a.value) name)
