-- Why an image isn't loaded.
use Rattle.std.specs.Prelude.{◌≡◌, ◌⊎◌, ℕ, List, ◌++◌, codes}
use Rattle.gimli_core_readers.specs.Error.{Error}
use Rattle.gimli_core_readers.specs.Error.TheVariants as debug
use Rattle.gimli_core_readers.specs.ErrorText.{error_text}
use Rattle.addr2line_elf.specs.declared.error.LoadError.{LoadError}
use Rattle.addr2line_elf.specs.declared.error.LoadError.TheVariants.{Memory, Io, NotElf, UnsupportedElf, Truncated, CompressedSection, NeedsRelocation, Dwarf}

-- the error of loading that an error of the debugging information becomes: out of memory stays the
-- same
abbrev pub load_error_of : Error → LoadError
load_error_of debug.Memory = Memory
load_error_of e = Dwarf e

-- what an error prints: the letter L and its number, and then the error of the debugging
-- information
abbrev pub text_of : LoadError → List ℕ
text_of Memory = codes "L1"
text_of Io = codes "L2"
text_of NotElf = codes "L3"
text_of UnsupportedElf = codes "L4"
text_of Truncated = codes "L5"
text_of CompressedSection = codes "L6"
text_of NeedsRelocation = codes "L7"
text_of (Dwarf debug.Memory) = codes "L1"
text_of (Dwarf e) = codes "L8 " ++ error_text e

-- out of memory, or a file that can't be read
abbrev pub IsReadRefusal : LoadError → Type 0
IsReadRefusal e = (e ≡ Memory) ⊎ (e ≡ Io)
