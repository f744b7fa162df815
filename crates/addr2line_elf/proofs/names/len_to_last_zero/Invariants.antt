-- No byte after the first ones is zero.
use Rattle.std.proofs.Common.{◌≢◌, ℕ, ◌<◌, ◌≤◌, length, get_or}
use Rattle.addr2line_elf.proofs.names.len_to_last_zero.Given as goal

abbrev pub invariant-loop-len : goal.invariant-loop-len
invariant-loop-len l =
    record {
      within : l.len ≤ length l.bytes;
      none_after : (k : ℕ) → l.len ≤ k → k < length l.bytes → get_or l.bytes k 0 ≢ 0;
    }

abbrev pub decreases-loop-len : goal.decreases-loop-len
decreases-loop-len l = l.len
