use Rattle.std.proofs.Common.{◌≡◌, drop}
use Rattle.linemap_meaning.specs.Conditions.{any_inner_overlap}
use Rattle.linemap_meaning.specs.TableViews.{calls_part}
use Rattle.linemap_check.proofs.calls.+any_inner_overlap.Given as goal

abbrev pub invariant-loop-call : goal.invariant-loop-call
invariant-loop-call l =
    (any_inner_overlap) (calls_part l.calls) ≡ (any_inner_overlap) (calls_part (drop l.call-index l.calls))
