use Rattle.std.proofs.Common.{◌≡◌, ◌+◌, ◌<◌, ◌^◌, drop, sum_by}
use Rattle.linemap_check.specs.SaturatedWeight.{saturate}
use Rattle.linemap_check.proofs.weight.total.Given as goal

abbrev pub invariant-loop-item : goal.invariant-loop-item
invariant-loop-item g l =
    (l.sum < 2 ^ 64)
    × (saturate (sum_by g.T.HasWeight.weight l.items)
    ≡ saturate (l.sum + sum_by g.T.HasWeight.weight (drop l.item-index l.items)))
