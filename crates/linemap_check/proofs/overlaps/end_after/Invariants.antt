use Rattle.std.proofs.Common.{◌≡◌, length, drop}
use Rattle.linemap_check.specs.RangePasses.{ordered_end}
use Rattle.linemap_check.proofs.overlaps.end_after.Given as goal

abbrev pub invariant-loop-range : goal.invariant-loop-range
invariant-loop-range g l =
    ordered_end l.end (g.T.RangeOwner.ranges l.item)
    ≡ ordered_end l.greatest (drop l.index (g.T.RangeOwner.ranges l.item))

abbrev pub decreases-loop-range : goal.decreases-loop-range
decreases-loop-range g l = length (drop l.index (g.T.RangeOwner.ranges l.item))
