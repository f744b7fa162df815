use Rattle.std.proofs.Common.{◌≡◌, length, drop}
use Rattle.std.specs.List.{list_any}
use Rattle.linemap_meaning.specs.Conditions.{overlap}
use Rattle.linemap_meaning.specs.TableViews.{range_part}
use Rattle.linemap_check.proofs.overlaps.overlaps_from.Given as goal

abbrev pub invariant-loop-other : goal.invariant-loop-other
invariant-loop-other g l =
    list_any (overlap (range_part l.range)) (drop l.from (g.T.RangeOwner.ranges l.item))
    ≡ list_any (overlap (range_part l.range)) (drop l.index (g.T.RangeOwner.ranges l.item))

abbrev pub decreases-loop-other : goal.decreases-loop-other
decreases-loop-other g l = length (drop l.index (g.T.RangeOwner.ranges l.item))
