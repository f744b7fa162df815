-- How each form spells its value (DWARF 5, 7.5.5 and 7.5.6, and the GNU forms).
use Rattle.std.specs.Prelude.{ℕ, ◌==◌, List, [], ◌∷◌, if◌then◌else◌}
use Rattle.gimli_core_abbrev.specs.TheConstants.{DW_FORM_addr, DW_FORM_block2, DW_FORM_block4, DW_FORM_data2, DW_FORM_data4, DW_FORM_data8, DW_FORM_string, DW_FORM_block, DW_FORM_block1, DW_FORM_data1, DW_FORM_flag, DW_FORM_sdata, DW_FORM_strp, DW_FORM_udata, DW_FORM_ref_addr, DW_FORM_ref1, DW_FORM_ref2, DW_FORM_ref4, DW_FORM_ref8, DW_FORM_ref_udata, DW_FORM_indirect, DW_FORM_sec_offset, DW_FORM_exprloc, DW_FORM_flag_present, DW_FORM_strx, DW_FORM_addrx, DW_FORM_ref_sup4, DW_FORM_strp_sup, DW_FORM_data16, DW_FORM_line_strp, DW_FORM_ref_sig8, DW_FORM_implicit_const, DW_FORM_loclistx, DW_FORM_rnglistx, DW_FORM_ref_sup8, DW_FORM_strx1, DW_FORM_strx2, DW_FORM_strx3, DW_FORM_strx4, DW_FORM_addrx1, DW_FORM_addrx2, DW_FORM_addrx3, DW_FORM_addrx4, DW_FORM_GNU_addr_index, DW_FORM_GNU_str_index, DW_FORM_GNU_ref_alt, DW_FORM_GNU_strp_alt}
use Rattle.gimli_core_abbrev.specs.Encoding.{Encoding}
use Rattle.gimli_core_abbrev.specs.FormatSizes.{word_size}
use Rattle.gimli_units_forms.specs.declared.spelling.Spelling.{Spelling}
use Rattle.gimli_units_forms.specs.declared.spelling.Spelling.TheVariants.{Address, Fixed, Sixteen, Block, LongBlock, Unsigned, Signed, Text, Indirect, Constant, Unknown}

-- the spelling in the row of a form, and `Unknown` where there is no row
abbrev pub spelling_in : List (ℕ × Spelling) → ℕ → Spelling
spelling_in [] form = Unknown
spelling_in (row ∷ rows) form = if form == row.0 then row.1 else spelling_in rows form

-- an offset into another section
abbrev pub word_spelling : Encoding → Spelling
word_spelling e = Fixed (word_size e.format)

-- an offset into `.debug_info`, which was an address in version 2 (DWARF 2, 7.5.4)
abbrev pub section_reference : Encoding → Spelling
section_reference e = if e.version == 2 then Address else word_spelling e

-- a row for each form
abbrev pub spellings : Encoding → List (ℕ × Spelling)
spellings e =
    (DW_FORM_addr.0, Address)
    ∷ (DW_FORM_block2.0, Block 2)
    ∷ (DW_FORM_block4.0, Block 4)
    ∷ (DW_FORM_data2.0, Fixed 2)
    ∷ (DW_FORM_data4.0, Fixed 4)
    ∷ (DW_FORM_data8.0, Fixed 8)
    ∷ (DW_FORM_string.0, Text)
    ∷ (DW_FORM_block.0, LongBlock)
    ∷ (DW_FORM_block1.0, Block 1)
    ∷ (DW_FORM_data1.0, Fixed 1)
    ∷ (DW_FORM_flag.0, Fixed 1)
    ∷ (DW_FORM_sdata.0, Signed)
    ∷ (DW_FORM_strp.0, word_spelling e)
    ∷ (DW_FORM_udata.0, Unsigned)
    ∷ (DW_FORM_ref_addr.0, section_reference e)
    ∷ (DW_FORM_ref1.0, Fixed 1)
    ∷ (DW_FORM_ref2.0, Fixed 2)
    ∷ (DW_FORM_ref4.0, Fixed 4)
    ∷ (DW_FORM_ref8.0, Fixed 8)
    ∷ (DW_FORM_ref_udata.0, Unsigned)
    ∷ (DW_FORM_indirect.0, Indirect)
    ∷ (DW_FORM_sec_offset.0, word_spelling e)
    ∷ (DW_FORM_exprloc.0, LongBlock)
    ∷ (DW_FORM_flag_present.0, Fixed 0)
    ∷ (DW_FORM_strx.0, Unsigned)
    ∷ (DW_FORM_addrx.0, Unsigned)
    ∷ (DW_FORM_ref_sup4.0, Fixed 4)
    ∷ (DW_FORM_strp_sup.0, word_spelling e)
    ∷ (DW_FORM_data16.0, Sixteen)
    ∷ (DW_FORM_line_strp.0, word_spelling e)
    ∷ (DW_FORM_ref_sig8.0, Fixed 8)
    ∷ (DW_FORM_implicit_const.0, Constant)
    ∷ (DW_FORM_loclistx.0, Unsigned)
    ∷ (DW_FORM_rnglistx.0, Unsigned)
    ∷ (DW_FORM_ref_sup8.0, Fixed 8)
    ∷ (DW_FORM_strx1.0, Fixed 1)
    ∷ (DW_FORM_strx2.0, Fixed 2)
    ∷ (DW_FORM_strx3.0, Fixed 3)
    ∷ (DW_FORM_strx4.0, Fixed 4)
    ∷ (DW_FORM_addrx1.0, Fixed 1)
    ∷ (DW_FORM_addrx2.0, Fixed 2)
    ∷ (DW_FORM_addrx3.0, Fixed 3)
    ∷ (DW_FORM_addrx4.0, Fixed 4)
    ∷ (DW_FORM_GNU_addr_index.0, Unsigned)
    ∷ (DW_FORM_GNU_str_index.0, Unsigned)
    ∷ (DW_FORM_GNU_ref_alt.0, word_spelling e)
    ∷ (DW_FORM_GNU_strp_alt.0, word_spelling e)
    ∷ []

-- the spelling of a form
unfoldable pub spelling : Encoding → ℕ → Spelling
spelling e form = spelling_in (spellings e) form
