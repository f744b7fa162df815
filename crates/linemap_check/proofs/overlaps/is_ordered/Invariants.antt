use Rattle.std.proofs.Common.{◌≡◌, drop, flat_map}
use Rattle.linemap_check.specs.RangePasses.{in_direction, ordered_end}
use Rattle.linemap_check.proofs.overlaps.is_ordered.Given as goal

abbrev pub invariant-loop-i : goal.invariant-loop-i
invariant-loop-i g l =
    ordered_end 0 (flat_map g.T.RangeOwner.ranges (in_direction l.backwards l.items))
    ≡ ordered_end l.end (flat_map g.T.RangeOwner.ranges (drop l.i (in_direction l.backwards l.items)))
