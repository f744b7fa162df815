use Rattle.std.proofs.Common.{◌≡◌, drop, length, map}
use Rattle.linemap_meaning.specs.Conditions.{any_outside}
use Rattle.linemap_meaning.specs.TableViews.{range_part}
use Rattle.linemap_check.proofs.outside.last_holder.Given as goal

abbrev pub invariant-loop-range : goal.invariant-loop-range
invariant-loop-range g l =
    any_outside (map range_part l.parent) (g.T.RangeOwner.ranges l.item)
    ≡ any_outside (map range_part l.parent) (drop l.index (g.T.RangeOwner.ranges l.item))

abbrev pub decreases-loop-range : goal.decreases-loop-range
decreases-loop-range g l = length (drop l.index (g.T.RangeOwner.ranges l.item))
