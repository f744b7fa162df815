-- The two classes of ELF files (System V ABI, "ELF Header").
use Rattle.std.specs.Prelude.{ℕ}
use Rattle.addr2line_elf.specs.declared.class.Class.{Class}
use Rattle.addr2line_elf.specs.declared.class.Class.TheVariants.{Elf32, Elf64}

-- the bytes of an address, an offset or a size
abbrev pub word_size : Class → ℕ
word_size Elf32 = 4
word_size Elf64 = 8

-- the bytes of the file's header
abbrev pub file_header_size : Class → ℕ
file_header_size Elf32 = 52
file_header_size Elf64 = 64

-- the bytes of a section header
abbrev pub section_header_size : Class → ℕ
section_header_size Elf32 = 40
section_header_size Elf64 = 64

-- the bytes of an entry of a symbol table
abbrev pub symbol_size : Class → ℕ
symbol_size Elf32 = 16
symbol_size Elf64 = 24
