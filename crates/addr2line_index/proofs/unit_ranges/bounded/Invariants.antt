-- What was made is of the ranges after those that are left.
use Rattle.std.proofs.Common.{length, reverse}
use Rattle.addr2line_index.proofs.BoundedRangeLemmas.{AreMade}
use Rattle.addr2line_index.proofs.unit_ranges.bounded.Given as goal

abbrev pub invariant-loop-last : goal.invariant-loop-last
invariant-loop-last l = AreMade l.ranges l.left l.least_begin l.after (reverse l.entries.items)

abbrev pub decreases-loop-last : goal.decreases-loop-last
decreases-loop-last l = length l.left
