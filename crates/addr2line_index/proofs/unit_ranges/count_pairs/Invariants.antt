-- Those so far, and those of the ranges that are left.
use Rattle.std.proofs.Common.{◌≡◌, ◌+◌, length}
use Rattle.addr2line_index.specs.SharedRanges.{count_in_all}
use Rattle.addr2line_index.proofs.unit_ranges.count_pairs.Given as goal

abbrev pub invariant-loop-left : goal.invariant-loop-left
invariant-loop-left l = l.count + count_in_all l.left ≡ count_in_all l.ranges

abbrev pub decreases-loop-left : goal.decreases-loop-left
decreases-loop-left l = length l.left
