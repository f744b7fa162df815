use Rattle.std.proofs.Common.{◌≡◌, drop, flat_map}
use Rattle.linemap_meaning.specs.TableViews.{range_part}
use Rattle.linemap_check.specs.RangePasses.{in_direction, last_apart}
use Rattle.linemap_check.proofs.RangePassLemmas.{empty_range}
use Rattle.linemap_check.proofs.overlaps.any_overlaps_last.Given as goal

abbrev pub invariant-loop-i : goal.invariant-loop-i
invariant-loop-i g l =
    last_apart empty_range (flat_map g.T.RangeOwner.ranges (in_direction l.backwards l.items))
    ≡ last_apart (range_part l.last) (flat_map g.T.RangeOwner.ranges (drop l.i (in_direction l.backwards l.items)))
