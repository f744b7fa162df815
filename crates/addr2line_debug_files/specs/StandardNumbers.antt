-- The constants of this crate, each with the number that its standard gives it.
use Rattle.std.specs.Prelude.{◌≡◌, ◌-◌, ◌^◌, [], ◌∷◌, ◌++◌, codes, map, sum}
use Rattle.addr2line_debug_files.specs.declared.checksum.TheConstants.{GENERATOR}
use Rattle.addr2line_debug_files.specs.declared.notes.TheConstants.{NOTE_ALIGNMENT, NT_GNU_BUILD_ID, ELF_NOTE_GNU}

-- notes (System V ABI, "Note Section"; the GNU C library's elf.h)
abbrev pub NoteNumbers : Type 0
NoteNumbers =
    (NOTE_ALIGNMENT ≡ 4)
    × (NT_GNU_BUILD_ID ≡ 3)
    × (ELF_NOTE_GNU ≡ codes "GNU" ++ 0 ∷ [])

-- the generator x^32 + x^26 + x^23 + .. + 1 without its first term (ITU-T V.42, 8.1.1.6.2)
abbrev pub GeneratorTerms : Type 0
GeneratorTerms =
    GENERATOR ≡ sum (map (λ power. 2 ^ (31 - power))
    (26 ∷ 23 ∷ 22 ∷ 16 ∷ 12 ∷ 11 ∷ 10 ∷ 8 ∷ 7 ∷ 5 ∷ 4 ∷ 2 ∷ 1 ∷ 0 ∷ []))
