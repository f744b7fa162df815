-- The constants of this crate, each with the number that the standard gives it, in the order of the
-- standard's sections and tables.
use Rattle.std.specs.Prelude.{◌≡◌}
use Rattle.gimli_core_base.specs.declared.constants.TheConstants.{DWARF64_ESCAPE, FIRST_RESERVED_LENGTH, DW_UT_compile, DW_UT_type, DW_UT_partial, DW_UT_skeleton, DW_UT_split_compile, DW_UT_split_type, DW_TAG_compile_unit, DW_TAG_inlined_subroutine, DW_TAG_subprogram, DW_TAG_partial_unit, DW_TAG_type_unit, DW_TAG_skeleton_unit, DW_CHILDREN_no, DW_CHILDREN_yes, DW_AT_name, DW_AT_stmt_list, DW_AT_low_pc, DW_AT_high_pc, DW_AT_language, DW_AT_comp_dir, DW_AT_abstract_origin, DW_AT_specification, DW_AT_ranges, DW_AT_call_column, DW_AT_call_file, DW_AT_call_line, DW_AT_linkage_name, DW_AT_str_offsets_base, DW_AT_addr_base, DW_AT_rnglists_base, DW_AT_dwo_name, DW_AT_loclists_base, DW_AT_MIPS_linkage_name, DW_AT_GNU_dwo_name, DW_AT_GNU_dwo_id, DW_AT_GNU_ranges_base, DW_AT_GNU_addr_base, DW_FORM_addr, DW_FORM_block2, DW_FORM_block4, DW_FORM_data2, DW_FORM_data4, DW_FORM_data8, DW_FORM_string, DW_FORM_block, DW_FORM_block1, DW_FORM_data1, DW_FORM_flag, DW_FORM_sdata, DW_FORM_strp, DW_FORM_udata, DW_FORM_ref_addr, DW_FORM_ref1, DW_FORM_ref2, DW_FORM_ref4, DW_FORM_ref8, DW_FORM_ref_udata, DW_FORM_indirect, DW_FORM_sec_offset, DW_FORM_exprloc, DW_FORM_flag_present, DW_FORM_strx, DW_FORM_addrx, DW_FORM_ref_sup4, DW_FORM_strp_sup, DW_FORM_data16, DW_FORM_line_strp, DW_FORM_ref_sig8, DW_FORM_implicit_const, DW_FORM_loclistx, DW_FORM_rnglistx, DW_FORM_ref_sup8, DW_FORM_strx1, DW_FORM_strx2, DW_FORM_strx3, DW_FORM_strx4, DW_FORM_addrx1, DW_FORM_addrx2, DW_FORM_addrx3, DW_FORM_addrx4, DW_FORM_GNU_addr_index, DW_FORM_GNU_str_index, DW_FORM_GNU_ref_alt, DW_FORM_GNU_strp_alt, DW_LLE_end_of_list, DW_LLE_base_addressx, DW_LLE_startx_endx, DW_LLE_startx_length, DW_LLE_offset_pair, DW_LLE_default_location, DW_LLE_base_address, DW_LLE_start_end, DW_LLE_start_length, DW_LANG_Rust, DW_LNS_copy, DW_LNS_advance_pc, DW_LNS_advance_line, DW_LNS_set_file, DW_LNS_set_column, DW_LNS_negate_stmt, DW_LNS_set_basic_block, DW_LNS_const_add_pc, DW_LNS_fixed_advance_pc, DW_LNS_set_prologue_end, DW_LNS_set_epilogue_begin, DW_LNS_set_isa, DW_LNE_end_sequence, DW_LNE_set_address, DW_LNE_define_file, DW_LNE_set_discriminator, DW_LNCT_path, DW_LNCT_directory_index, DW_LNCT_timestamp, DW_LNCT_size, DW_LNCT_MD5, DW_LNCT_LLVM_source, DW_RLE_end_of_list, DW_RLE_base_addressx, DW_RLE_startx_endx, DW_RLE_startx_length, DW_RLE_offset_pair, DW_RLE_base_address, DW_RLE_start_end, DW_RLE_start_length}

-- the initial lengths that are not lengths of 32-bit DWARF: the escape of 64-bit DWARF, and the
-- first of those that are reserved (DWARF 5, 7.2.2 and 7.4)
abbrev pub InitialLengthNumbers : Type 0
InitialLengthNumbers =
    (DWARF64_ESCAPE ≡ 0xffff_ffff)
    × (FIRST_RESERVED_LENGTH ≡ 0xffff_fff0)

-- the types of units (DWARF 5, 7.5.1, table 7.2)
abbrev pub UnitTypeNumbers : Type 0
UnitTypeNumbers =
    (DW_UT_compile.0 ≡ 0x01)
    × (DW_UT_type.0 ≡ 0x02)
    × (DW_UT_partial.0 ≡ 0x03)
    × (DW_UT_skeleton.0 ≡ 0x04)
    × (DW_UT_split_compile.0 ≡ 0x05)
    × (DW_UT_split_type.0 ≡ 0x06)

-- the tags of entries (DWARF 5, 7.5.3, table 7.3)
abbrev pub TagNumbers : Type 0
TagNumbers =
    (DW_TAG_compile_unit.0 ≡ 0x11)
    × (DW_TAG_inlined_subroutine.0 ≡ 0x1d)
    × (DW_TAG_subprogram.0 ≡ 0x2e)
    × (DW_TAG_partial_unit.0 ≡ 0x3c)
    × (DW_TAG_type_unit.0 ≡ 0x41)
    × (DW_TAG_skeleton_unit.0 ≡ 0x4a)

-- whether entries have children (DWARF 5, 7.5.3, table 7.4)
abbrev pub ChildrenNumbers : Type 0
ChildrenNumbers =
    (DW_CHILDREN_no.0 ≡ 0x00)
    × (DW_CHILDREN_yes.0 ≡ 0x01)

-- the names of attributes (DWARF 5, 7.5.4, table 7.5); those of vendors are in the range from
-- DW_AT_lo_user to DW_AT_hi_user (0x2000 to 0x3fff), and are the numbers that GCC and LLVM write
abbrev pub AttributeNumbers : Type 0
AttributeNumbers =
    (DW_AT_name.0 ≡ 0x03)
    × (DW_AT_stmt_list.0 ≡ 0x10)
    × (DW_AT_low_pc.0 ≡ 0x11)
    × (DW_AT_high_pc.0 ≡ 0x12)
    × (DW_AT_language.0 ≡ 0x13)
    × (DW_AT_comp_dir.0 ≡ 0x1b)
    × (DW_AT_abstract_origin.0 ≡ 0x31)
    × (DW_AT_specification.0 ≡ 0x47)
    × (DW_AT_ranges.0 ≡ 0x55)
    × (DW_AT_call_column.0 ≡ 0x57)
    × (DW_AT_call_file.0 ≡ 0x58)
    × (DW_AT_call_line.0 ≡ 0x59)
    × (DW_AT_linkage_name.0 ≡ 0x6e)
    × (DW_AT_str_offsets_base.0 ≡ 0x72)
    × (DW_AT_addr_base.0 ≡ 0x73)
    × (DW_AT_rnglists_base.0 ≡ 0x74)
    × (DW_AT_dwo_name.0 ≡ 0x76)
    × (DW_AT_loclists_base.0 ≡ 0x8c)
    × (DW_AT_MIPS_linkage_name.0 ≡ 0x2007)
    × (DW_AT_GNU_dwo_name.0 ≡ 0x2130)
    × (DW_AT_GNU_dwo_id.0 ≡ 0x2131)
    × (DW_AT_GNU_ranges_base.0 ≡ 0x2132)
    × (DW_AT_GNU_addr_base.0 ≡ 0x2133)

-- the forms of attribute values (DWARF 5, 7.5.6, table 7.6); those of GNU are the numbers that GCC
-- and LLVM write
abbrev pub FormNumbers : Type 0
FormNumbers =
    (DW_FORM_addr.0 ≡ 0x01)
    × (DW_FORM_block2.0 ≡ 0x03)
    × (DW_FORM_block4.0 ≡ 0x04)
    × (DW_FORM_data2.0 ≡ 0x05)
    × (DW_FORM_data4.0 ≡ 0x06)
    × (DW_FORM_data8.0 ≡ 0x07)
    × (DW_FORM_string.0 ≡ 0x08)
    × (DW_FORM_block.0 ≡ 0x09)
    × (DW_FORM_block1.0 ≡ 0x0a)
    × (DW_FORM_data1.0 ≡ 0x0b)
    × (DW_FORM_flag.0 ≡ 0x0c)
    × (DW_FORM_sdata.0 ≡ 0x0d)
    × (DW_FORM_strp.0 ≡ 0x0e)
    × (DW_FORM_udata.0 ≡ 0x0f)
    × (DW_FORM_ref_addr.0 ≡ 0x10)
    × (DW_FORM_ref1.0 ≡ 0x11)
    × (DW_FORM_ref2.0 ≡ 0x12)
    × (DW_FORM_ref4.0 ≡ 0x13)
    × (DW_FORM_ref8.0 ≡ 0x14)
    × (DW_FORM_ref_udata.0 ≡ 0x15)
    × (DW_FORM_indirect.0 ≡ 0x16)
    × (DW_FORM_sec_offset.0 ≡ 0x17)
    × (DW_FORM_exprloc.0 ≡ 0x18)
    × (DW_FORM_flag_present.0 ≡ 0x19)
    × (DW_FORM_strx.0 ≡ 0x1a)
    × (DW_FORM_addrx.0 ≡ 0x1b)
    × (DW_FORM_ref_sup4.0 ≡ 0x1c)
    × (DW_FORM_strp_sup.0 ≡ 0x1d)
    × (DW_FORM_data16.0 ≡ 0x1e)
    × (DW_FORM_line_strp.0 ≡ 0x1f)
    × (DW_FORM_ref_sig8.0 ≡ 0x20)
    × (DW_FORM_implicit_const.0 ≡ 0x21)
    × (DW_FORM_loclistx.0 ≡ 0x22)
    × (DW_FORM_rnglistx.0 ≡ 0x23)
    × (DW_FORM_ref_sup8.0 ≡ 0x24)
    × (DW_FORM_strx1.0 ≡ 0x25)
    × (DW_FORM_strx2.0 ≡ 0x26)
    × (DW_FORM_strx3.0 ≡ 0x27)
    × (DW_FORM_strx4.0 ≡ 0x28)
    × (DW_FORM_addrx1.0 ≡ 0x29)
    × (DW_FORM_addrx2.0 ≡ 0x2a)
    × (DW_FORM_addrx3.0 ≡ 0x2b)
    × (DW_FORM_addrx4.0 ≡ 0x2c)
    × (DW_FORM_GNU_addr_index.0 ≡ 0x1f01)
    × (DW_FORM_GNU_str_index.0 ≡ 0x1f02)
    × (DW_FORM_GNU_ref_alt.0 ≡ 0x1f20)
    × (DW_FORM_GNU_strp_alt.0 ≡ 0x1f21)

-- the kinds of location list entries (DWARF 5, 7.7.3, table 7.10)
abbrev pub LocationListEntryNumbers : Type 0
LocationListEntryNumbers =
    (DW_LLE_end_of_list.0 ≡ 0x00)
    × (DW_LLE_base_addressx.0 ≡ 0x01)
    × (DW_LLE_startx_endx.0 ≡ 0x02)
    × (DW_LLE_startx_length.0 ≡ 0x03)
    × (DW_LLE_offset_pair.0 ≡ 0x04)
    × (DW_LLE_default_location.0 ≡ 0x05)
    × (DW_LLE_base_address.0 ≡ 0x06)
    × (DW_LLE_start_end.0 ≡ 0x07)
    × (DW_LLE_start_length.0 ≡ 0x08)

-- the source languages (DWARF 5, 7.12, table 7.17)
abbrev pub LanguageNumbers : Type 0
LanguageNumbers =
    (DW_LANG_Rust.0 ≡ 0x1c)

-- the standard opcodes of line number programs (DWARF 5, 7.22, table 7.25)
abbrev pub StandardOpcodeNumbers : Type 0
StandardOpcodeNumbers =
    (DW_LNS_copy.0 ≡ 0x01)
    × (DW_LNS_advance_pc.0 ≡ 0x02)
    × (DW_LNS_advance_line.0 ≡ 0x03)
    × (DW_LNS_set_file.0 ≡ 0x04)
    × (DW_LNS_set_column.0 ≡ 0x05)
    × (DW_LNS_negate_stmt.0 ≡ 0x06)
    × (DW_LNS_set_basic_block.0 ≡ 0x07)
    × (DW_LNS_const_add_pc.0 ≡ 0x08)
    × (DW_LNS_fixed_advance_pc.0 ≡ 0x09)
    × (DW_LNS_set_prologue_end.0 ≡ 0x0a)
    × (DW_LNS_set_epilogue_begin.0 ≡ 0x0b)
    × (DW_LNS_set_isa.0 ≡ 0x0c)

-- the extended opcodes of line number programs (DWARF 5, 7.22, table 7.26), and the one that
-- version 5 reserves, as version 4 has it (DWARF 4, 7.21)
abbrev pub ExtendedOpcodeNumbers : Type 0
ExtendedOpcodeNumbers =
    (DW_LNE_end_sequence.0 ≡ 0x01)
    × (DW_LNE_set_address.0 ≡ 0x02)
    × (DW_LNE_define_file.0 ≡ 0x03)
    × (DW_LNE_set_discriminator.0 ≡ 0x04)

-- the content types of line number programs (DWARF 5, 7.22, table 7.27); that of LLVM is in the
-- range of vendors
abbrev pub ContentTypeNumbers : Type 0
ContentTypeNumbers =
    (DW_LNCT_path.0 ≡ 0x1)
    × (DW_LNCT_directory_index.0 ≡ 0x2)
    × (DW_LNCT_timestamp.0 ≡ 0x3)
    × (DW_LNCT_size.0 ≡ 0x4)
    × (DW_LNCT_MD5.0 ≡ 0x5)
    × (DW_LNCT_LLVM_source.0 ≡ 0x2001)

-- the kinds of range list entries (DWARF 5, 7.25, table 7.30)
abbrev pub RangeListEntryNumbers : Type 0
RangeListEntryNumbers =
    (DW_RLE_end_of_list.0 ≡ 0x00)
    × (DW_RLE_base_addressx.0 ≡ 0x01)
    × (DW_RLE_startx_endx.0 ≡ 0x02)
    × (DW_RLE_startx_length.0 ≡ 0x03)
    × (DW_RLE_offset_pair.0 ≡ 0x04)
    × (DW_RLE_base_address.0 ≡ 0x05)
    × (DW_RLE_start_end.0 ≡ 0x06)
    × (DW_RLE_start_length.0 ≡ 0x07)
