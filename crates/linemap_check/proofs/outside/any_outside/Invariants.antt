use Rattle.std.proofs.Common.{◌≡◌, drop, flat_map, map}
use Rattle.linemap_meaning.specs.Conditions.{any_outside}
use Rattle.linemap_meaning.specs.TableViews.{range_part}
use Rattle.linemap_check.proofs.outside.any_outside.Given as goal

abbrev pub invariant-loop-item : goal.invariant-loop-item
invariant-loop-item g l =
    any_outside (map range_part l.parent) (flat_map g.T.RangeOwner.ranges l.items)
    ≡ any_outside (map range_part l.parent) (flat_map g.T.RangeOwner.ranges (drop l.item-index l.items))
