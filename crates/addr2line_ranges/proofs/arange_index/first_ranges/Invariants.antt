-- What was found, with the unit's ranges among those that are left, is the whole.
use Rattle.std.proofs.Common.{◌≡◌, ◌++◌, length}
use Rattle.addr2line_ranges.specs.ArangeIndexes.{ranges_at, AscendsFrom}
use Rattle.addr2line_ranges.proofs.arange_index.first_ranges.Given as goal

abbrev pub invariant-loop-left : goal.invariant-loop-left
invariant-loop-left l = record {
  ascends : AscendsFrom l.offset l.left;
  same : l.ranges.items ++ ranges_at l.offset l.left ≡ ranges_at l.offset l.entries;
}

abbrev pub decreases-loop-left : goal.decreases-loop-left
decreases-loop-left l = length l.left
