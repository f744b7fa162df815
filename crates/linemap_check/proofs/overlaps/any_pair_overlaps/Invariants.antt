use Rattle.std.proofs.Common.{◌≡◌, drop, flat_map}
use Rattle.linemap_meaning.specs.Conditions.{any_overlap}
use Rattle.linemap_check.proofs.overlaps.any_pair_overlaps.Given as goal

abbrev pub invariant-loop-i : goal.invariant-loop-i
invariant-loop-i g l =
    any_overlap (flat_map g.T.RangeOwner.ranges l.items)
    ≡ any_overlap (flat_map g.T.RangeOwner.ranges (drop l.i l.items))
