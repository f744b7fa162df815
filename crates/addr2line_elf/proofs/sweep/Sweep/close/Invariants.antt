use Rattle.std.proofs.Common.{◌+◌, ◌≤◌, List, length, reverse}
use Rattle.addr2line_elf.specs.declared.symbol_entries.SymbolEntry.{SymbolEntry}
use Rattle.addr2line_elf.specs.SymbolSweeps.{IsSweptTo, stretch_count}
use Rattle.addr2line_elf.proofs.sweep.Sweep.close.Given as goal

-- what is swept stays so
abbrev pub invariant-loop-entry : goal.invariant-loop-entry
invariant-loop-entry l =
    record {
      swept : (entries : List SymbolEntry)
          → IsSweptTo (l.last + 1) l.initial.self.stretches.items (reverse l.initial.self.active.items) entries
          → IsSweptTo (l.last + 1) l.self.stretches.items (reverse l.self.active.items) entries;
      count : stretch_count l.self ≤ stretch_count l.initial.self;
    }

abbrev pub decreases-loop-entry : goal.decreases-loop-entry
decreases-loop-entry l = length l.self.active.items
