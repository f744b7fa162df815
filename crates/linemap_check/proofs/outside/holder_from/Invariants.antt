use Rattle.std.proofs.Common.{◌≡◌, drop, map}
use Rattle.std.specs.List.{list_any}
use Rattle.linemap_meaning.specs.Conditions.{is_within}
use Rattle.linemap_meaning.specs.TableViews.{range_part}
use Rattle.linemap_check.proofs.outside.holder_from.Given as goal

abbrev pub invariant-loop-i : goal.invariant-loop-i
invariant-loop-i l =
    list_any (is_within (range_part l.range)) (map range_part (drop l.start l.parent))
    ≡ list_any (is_within (range_part l.range)) (map range_part (drop l.i l.parent))
