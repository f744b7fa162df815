-- The constants of this crate, each with the number that the standard gives it (System V ABI), in
-- the order of the standard's chapters.
use Rattle.std.specs.Prelude.{◌≡◌}
use Rattle.addr2line_elf.specs.declared.constants.TheConstants.{EI_CLASS, EI_DATA, EI_NIDENT, ELFCLASS32, ELFCLASS64, ELFDATA2LSB, ELFDATA2MSB, ET_REL, SHN_UNDEF, SHN_XINDEX, SHT_SYMTAB, SHT_RELA, SHT_NOBITS, SHT_REL, SHT_DYNSYM, SHF_COMPRESSED, STT_FUNC}

-- the places of the class and of the order of bytes in a file's identification, what they hold, and
-- the bytes of the identification ("ELF Header", "ELF Identification")
abbrev pub IdentificationNumbers : Type 0
IdentificationNumbers =
    (EI_CLASS ≡ 4)
    × (ELFCLASS32 ≡ 1)
    × (ELFCLASS64 ≡ 2)
    × (EI_DATA ≡ 5)
    × (ELFDATA2LSB ≡ 1)
    × (ELFDATA2MSB ≡ 2)
    × (EI_NIDENT ≡ 16)

-- the types of files ("ELF Header", e_type)
abbrev pub FileTypeNumbers : Type 0
FileTypeNumbers = ET_REL ≡ 1

-- the indices of sections that are not places in the table ("Sections", "Special Section Indexes")
abbrev pub SpecialSectionNumbers : Type 0
SpecialSectionNumbers =
    (SHN_UNDEF ≡ 0)
    × (SHN_XINDEX ≡ 0xffff)

-- the types of sections ("Sections", sh_type)
abbrev pub SectionTypeNumbers : Type 0
SectionTypeNumbers =
    (SHT_SYMTAB ≡ 2)
    × (SHT_RELA ≡ 4)
    × (SHT_NOBITS ≡ 8)
    × (SHT_REL ≡ 9)
    × (SHT_DYNSYM ≡ 11)

-- the flags of sections ("Sections", sh_flags)
abbrev pub SectionFlagNumbers : Type 0
SectionFlagNumbers = SHF_COMPRESSED ≡ 0x800

-- the types of symbols ("Symbol Table", ELF32_ST_TYPE and ELF64_ST_TYPE)
abbrev pub SymbolTypeNumbers : Type 0
SymbolTypeNumbers = STT_FUNC ≡ 2
