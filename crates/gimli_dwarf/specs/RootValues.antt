-- What the attributes of a root say of its unit.
use Rattle.std.specs.Prelude.{ℕ, List, Option, None}
use Rattle.std.specs.Option.{option_or}
use Rattle.gimli_dwarf_spec.specs.AttributeMeanings.{value_under}
use Rattle.gimli_dwarf_spec.specs.AttributeValues.{RawValue, RawAttribute}
use Rattle.gimli_dwarf_spec.specs.Attributes.{Bases}
use Rattle.gimli_dwarf_spec.specs.DwarfFileType.{DwarfFileType}
use Rattle.gimli_dwarf_spec.specs.Encoding.{Encoding}
use Rattle.gimli_dwarf_spec.specs.UnitFacts.{bases_or_default, value_of_kind, last_value_of_kind, any_value, last_value, is_name, is_comp_dir, is_low_pc, is_dwo_id, is_stmt_list, is_str_offsets_base, is_addr_base, is_loclists_base, is_rnglists_base, line_reference_of, string_offsets_base_of, address_base_of, location_lists_base_of, range_lists_base_of}

-- what an attribute's name makes of its value
abbrev pub named_value : RawAttribute → RawValue
named_value a = value_under a.name a.value

-- The values of the last attributes of some names, and the offsets in the last that name a line
-- number program or a base, and fit.
pub record RootValues : Type 0 where
  pub name : Option RawValue
  pub comp_dir : Option RawValue
  pub low_pc : Option RawValue
  pub dwo_id : Option RawValue
  pub line : Option ℕ
  pub str_offsets : Option ℕ
  pub addr : Option ℕ
  pub loclists : Option ℕ
  pub rnglists : Option ℕ

-- those of some attributes
abbrev pub root_values : List RawAttribute → RootValues
root_values attributes = record {
  name = last_value is_name attributes;
  comp_dir = last_value is_comp_dir attributes;
  low_pc = last_value is_low_pc attributes;
  dwo_id = last_value is_dwo_id attributes;
  line = last_value_of_kind line_reference_of is_stmt_list attributes;
  str_offsets = last_value_of_kind string_offsets_base_of is_str_offsets_base attributes;
  addr = last_value_of_kind address_base_of is_addr_base attributes;
  loclists = last_value_of_kind location_lists_base_of is_loclists_base attributes;
  rnglists = last_value_of_kind range_lists_base_of is_rnglists_base attributes;
}

-- no attribute says anything
abbrev pub no_values : RootValues
no_values = record {
  name = None;
  comp_dir = None;
  low_pc = None;
  dwo_id = None;
  line = None;
  str_offsets = None;
  addr = None;
  loclists = None;
  rnglists = None;
}

-- those with one more attribute
abbrev pub with_attribute : RawAttribute → RootValues → RootValues
with_attribute a r = record {
  name = option_or (value_of_kind any_value is_name a) r.name;
  comp_dir = option_or (value_of_kind any_value is_comp_dir a) r.comp_dir;
  low_pc = option_or (value_of_kind any_value is_low_pc a) r.low_pc;
  dwo_id = option_or (value_of_kind any_value is_dwo_id a) r.dwo_id;
  line = option_or (value_of_kind line_reference_of is_stmt_list a) r.line;
  str_offsets =
      option_or (value_of_kind string_offsets_base_of is_str_offsets_base a) r.str_offsets;
  addr = option_or (value_of_kind address_base_of is_addr_base a) r.addr;
  loclists =
      option_or (value_of_kind location_lists_base_of is_loclists_base a) r.loclists;
  rnglists = option_or (value_of_kind range_lists_base_of is_rnglists_base a) r.rnglists;
}

-- the bases of a unit whose root says this
abbrev pub bases_in : DwarfFileType → Encoding → RootValues → Bases
bases_in file_type e r =
    bases_or_default file_type e r.str_offsets r.addr r.loclists r.rnglists
