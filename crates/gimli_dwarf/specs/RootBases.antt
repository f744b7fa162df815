-- The offsets that a root names for its unit.
use Rattle.std.specs.Prelude.{ℕ, Bool, Option}
use Rattle.gimli_dwarf_spec.specs.AttributeValues.{RawValue}
use Rattle.gimli_dwarf_spec.specs.UnitFacts.{is_stmt_list, is_str_offsets_base, is_addr_base, is_loclists_base, is_rnglists_base, line_reference_of, string_offsets_base_of, address_base_of, location_lists_base_of, range_lists_base_of}
use Rattle.gimli_dwarf.specs.declared.root.Base.{Base}
use Rattle.gimli_dwarf.specs.declared.root.Base.TheVariants.{Line, StrOffsets, Addr, LocLists, RngLists}

-- the attributes that name it
abbrev pub names_base : Base → ℕ → Bool
names_base Line n = is_stmt_list n
names_base StrOffsets n = is_str_offsets_base n
names_base Addr n = is_addr_base n
names_base LocLists n = is_loclists_base n
names_base RngLists n = is_rnglists_base n

-- the values that fit it
abbrev pub offset_of_base : Base → RawValue → Option ℕ
offset_of_base Line v = line_reference_of v
offset_of_base StrOffsets v = string_offsets_base_of v
offset_of_base Addr v = address_base_of v
offset_of_base LocLists v = location_lists_base_of v
offset_of_base RngLists v = range_lists_base_of v
