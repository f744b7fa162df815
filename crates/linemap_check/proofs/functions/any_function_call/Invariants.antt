use Rattle.std.proofs.Common.{◌≡◌, drop, map}
use Rattle.std.specs.List.{list_any}
use Rattle.linemap_meaning.specs.Conditions.{any_call}
use Rattle.linemap_meaning.specs.TableViews.{function_part}
use Rattle.linemap_check.proofs.functions.any_function_call.Given as goal

abbrev pub invariant-loop-function : goal.invariant-loop-function
invariant-loop-function g l =
    list_any (λ f. any_call (g.T.CallTest.passes l.test) f.calls) (map function_part l.functions)
    ≡ list_any (λ f. any_call (g.T.CallTest.passes l.test) f.calls)
    (map function_part (drop l.function-index l.functions))
