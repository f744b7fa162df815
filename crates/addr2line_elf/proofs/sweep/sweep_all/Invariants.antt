use Rattle.std.proofs.Common.{◌+◌, ◌*◌, ◌≤◌, length, reverse, vec_len}
use Rattle.addr2line_elf.specs.SymbolSweeps.{stretch_count}
use Rattle.addr2line_elf.proofs.SymbolSweepLemmas.{IsPartlySwept}
use Rattle.addr2line_elf.proofs.sweep.sweep_all.Given as goal

-- the entries that are left, and those that the sweep has
abbrev pub invariant-loop-entry : goal.invariant-loop-entry
invariant-loop-entry l =
    record {
      partly : IsPartlySwept l.left.items l.fn.entries.items l.sweep.stretches.items (reverse l.sweep.active.items);
      count : stretch_count l.sweep + 2 * vec_len l.left ≤ 2 * vec_len l.fn.entries;
    }

abbrev pub decreases-loop-entry : goal.decreases-loop-entry
decreases-loop-entry l = length l.left.items
