-- An entry of a symbol table, field by field (System V ABI, "Symbol Table").
use Rattle.gimli_core_readers.specs.Parsers.{Parser, ◌>>=◌, give, skip}
use Rattle.gimli_core_readers.specs.NumberParsers.{fixed}
use Rattle.addr2line_elf.specs.declared.class.Class.{Class}
use Rattle.addr2line_elf.specs.declared.class.Class.TheVariants.{Elf32, Elf64}
use Rattle.addr2line_elf.specs.declared.symbol_entries.SymbolEntry.{SymbolEntry}

-- name, value, size, info, other, section
unfoldable pub entry_of_32 : Parser SymbolEntry
entry_of_32 = do
  name ← fixed 4
  value ← fixed 4
  size ← fixed 4
  info ← fixed 1
  other ← skip 1
  section ← fixed 2
  give (record { name = name; info = info; section = section; value = value; size = size })

-- name, info, other, section, value, size
unfoldable pub entry_of_64 : Parser SymbolEntry
entry_of_64 = do
  name ← fixed 4
  info ← fixed 1
  other ← skip 1
  section ← fixed 2
  value ← fixed 8
  size ← fixed 8
  give (record { name = name; info = info; section = section; value = value; size = size })

abbrev pub symbol_entry : Class → Parser SymbolEntry
symbol_entry Elf32 = entry_of_32
symbol_entry Elf64 = entry_of_64
