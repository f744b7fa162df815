use Rattle.std.proofs.Common.{◌≡◌, drop}
use Rattle.linemap_meaning.specs.Conditions.{any_call}
use Rattle.linemap_meaning.specs.TableViews.{calls_part}
use Rattle.linemap_check.proofs.calls.+any_call.Given as goal

abbrev pub invariant-loop-call : goal.invariant-loop-call
invariant-loop-call g l =
    (any_call (g.T.CallTest.passes l.test)) (calls_part l.calls)
    ≡ (any_call (g.T.CallTest.passes l.test)) (calls_part (drop l.call-index l.calls))
