use Rattle.std.proofs.Common.{◌≡◌, length, drop}
use Rattle.linemap_meaning.specs.TableViews.{range_part}
use Rattle.linemap_check.specs.RangePasses.{last_apart}
use Rattle.linemap_check.proofs.overlaps.last_after.Given as goal

abbrev pub invariant-loop-range : goal.invariant-loop-range
invariant-loop-range g l =
    last_apart (range_part l.fn.last) (g.T.RangeOwner.ranges l.item)
    ≡ last_apart (range_part l.latest) (drop l.index (g.T.RangeOwner.ranges l.item))

abbrev pub decreases-loop-range : goal.decreases-loop-range
decreases-loop-range g l = length (drop l.index (g.T.RangeOwner.ranges l.item))
