use Rattle.std.proofs.Common.{◌≡◌, ◌-◌}
use Rattle.gimli_core_readers.specs.Repetition.{times}
use Rattle.gimli_core_readers.proofs.Times.{prepend}
use Rattle.addr2line_elf.specs.SymbolEntries.{symbol_entry}
use Rattle.addr2line_elf.proofs.symbols.read_next.Given as goal

-- the entries so far, and then those that are left
abbrev pub invariant-loop-index : goal.invariant-loop-index
invariant-loop-index l =
    prepend l.entries.items (times (l.count - l._index) (symbol_entry l.class) l.input)
    ≡ times l.count (symbol_entry l.class) l.fn.input
