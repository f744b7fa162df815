use Rattle.std.proofs.Common.{◌≡◌, drop, flat_map}
use Rattle.std.specs.List.{list_any}
use Rattle.linemap_meaning.specs.Conditions.{overlap}
use Rattle.linemap_meaning.specs.TableViews.{range_part}
use Rattle.linemap_check.proofs.overlaps.overlaps_any.Given as goal

abbrev pub invariant-loop-item : goal.invariant-loop-item
invariant-loop-item g l =
    list_any (overlap (range_part l.range)) (flat_map g.T.RangeOwner.ranges l.items)
    ≡ list_any (overlap (range_part l.range)) (flat_map g.T.RangeOwner.ranges (drop l.item-index l.items))
