-- The constants of this crate, each with the number that the standard gives it (System V ABI), in
-- the order of the standard's chapters.
use Rattle.std.specs.Prelude.{◌≡◌}
use Rattle.linemap_elf.specs.declared.constants.TheConstants.{ELFCLASS32, ELFCLASS64, ELFDATA2LSB, ELFDATA2MSB, EV_CURRENT, ET_EXEC, EM_NONE, SHT_PROGBITS, SHT_STRTAB, SHN_LORESERVE}

-- what a file's identification and its header hold ("ELF Header")
abbrev pub HeaderNumbers : Type 0
HeaderNumbers =
    (ELFCLASS32 ≡ 1)
    × (ELFCLASS64 ≡ 2)
    × (ELFDATA2LSB ≡ 1)
    × (ELFDATA2MSB ≡ 2)
    × (EV_CURRENT ≡ 1)
    × (ET_EXEC ≡ 2)
    × (EM_NONE ≡ 0)

-- the first index that numbers no section header, and the types of sections ("Sections")
abbrev pub SectionNumbers : Type 0
SectionNumbers =
    (SHN_LORESERVE ≡ 0xff00)
    × (SHT_PROGBITS ≡ 1)
    × (SHT_STRTAB ≡ 3)
