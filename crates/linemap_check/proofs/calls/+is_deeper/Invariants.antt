use Rattle.std.proofs.Common.{◌≡◌, drop, nat_lt}
use Rattle.linemap_meaning.specs.Conditions.{depth}
use Rattle.linemap_meaning.specs.TableViews.{calls_part}
use Rattle.linemap_check.proofs.calls.+is_deeper.Given as goal

abbrev pub invariant-loop-call : goal.invariant-loop-call
invariant-loop-call l =
    nat_lt l.limit (depth (calls_part l.calls)) ≡ nat_lt l.limit (depth (calls_part (drop l.call-index l.calls)))
