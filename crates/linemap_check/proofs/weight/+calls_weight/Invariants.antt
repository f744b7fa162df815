use Rattle.std.proofs.Common.{◌≡◌, ◌+◌, ◌<◌, ◌^◌, drop}
use Rattle.linemap_meaning.specs.TableViews.{calls_part}
use Rattle.linemap_meaning.specs.TableWeight.{calls_weight}
use Rattle.linemap_check.specs.SaturatedWeight.{saturate}
use Rattle.linemap_check.proofs.weight.+calls_weight.Given as goal

abbrev pub invariant-loop-call : goal.invariant-loop-call
invariant-loop-call l =
    (l.sum < 2 ^ 64)
    × (saturate (calls_weight (calls_part l.calls))
    ≡ saturate (l.sum + calls_weight (calls_part (drop l.call-index l.calls))))
