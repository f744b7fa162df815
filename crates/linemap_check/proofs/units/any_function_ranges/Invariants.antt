use Rattle.std.proofs.Common.{◌≡◌, ◌||◌, drop, map}
use Rattle.std.specs.List.{list_any}
use Rattle.linemap_meaning.specs.Conditions.{any_call}
use Rattle.linemap_meaning.specs.TableViews.{function_part}
use Rattle.linemap_check.proofs.units.any_function_ranges.Given as goal

abbrev pub invariant-loop-function : goal.invariant-loop-function
invariant-loop-function g l =
    list_any (λ f. g.R.RangesTest.holds l.test f.ranges || any_call (λ s. g.R.RangesTest.holds l.test s.ranges) f.calls)
    (map function_part l.functions)
    ≡ list_any (λ f. g.R.RangesTest.holds l.test f.ranges
    || any_call (λ s. g.R.RangesTest.holds l.test s.ranges) f.calls)
    (map function_part (drop l.function-index l.functions))
