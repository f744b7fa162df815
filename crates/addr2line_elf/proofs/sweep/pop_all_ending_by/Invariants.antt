use Rattle.std.proofs.Common.{◌≡◌, ◌≤◌, length, reverse, vec_len}
use Rattle.addr2line_elf.specs.SymbolSweeps.{still_active}
use Rattle.addr2line_elf.proofs.sweep.pop_all_ending_by.Given as goal

-- what stays is the same
abbrev pub invariant-loop-ended : goal.invariant-loop-ended
invariant-loop-ended l =
    record {
      left : still_active l.address (reverse l.active.items) ≡ still_active l.address (reverse l.initial.active.items);
      count : vec_len l.active ≤ vec_len l.initial.active;
    }

abbrev pub decreases-loop-ended : goal.decreases-loop-ended
decreases-loop-ended l = length l.active.items
