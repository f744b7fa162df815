use Rattle.std.proofs.Common.{◌+◌, ◌≤◌, List, length, reverse, vec_len}
use Rattle.addr2line_elf.specs.declared.symbol_entries.SymbolEntry.{SymbolEntry}
use Rattle.addr2line_elf.specs.SymbolSweeps.{IsSwept}
use Rattle.addr2line_elf.proofs.sweep.Sweep.finish.Given as goal

-- what is swept stays so
abbrev pub invariant-loop-entry : goal.invariant-loop-entry
invariant-loop-entry l =
    record {
      swept : (entries : List SymbolEntry)
          → IsSwept l.initial.stretches.items (reverse l.initial.active.items) entries
          → IsSwept l.stretches.items (reverse l.active.items) entries;
      count : vec_len l.stretches + vec_len l.active ≤ vec_len l.initial.stretches + vec_len l.initial.active;
    }

abbrev pub decreases-loop-entry : goal.decreases-loop-entry
decreases-loop-entry l = length l.active.items
