use Rattle.std.proofs.Common.{◌≡◌, flat_map, length, drop}
use Rattle.linemap_check.specs.RangePasses.{any_overlaps_later}
use Rattle.linemap_check.proofs.overlaps.any_overlaps_later.Given as goal

abbrev pub invariant-loop-range : goal.invariant-loop-range
invariant-loop-range g l =
    any_overlaps_later (g.T.RangeOwner.ranges l.item) (flat_map g.T.RangeOwner.ranges l.later)
    ≡ any_overlaps_later (drop l.index (g.T.RangeOwner.ranges l.item)) (flat_map g.T.RangeOwner.ranges l.later)

abbrev pub decreases-loop-range : goal.decreases-loop-range
decreases-loop-range g l = length (drop l.index (g.T.RangeOwner.ranges l.item))
