use Rattle.std.proofs.Common.{◌≡◌, ◌+◌, ◌-◌, ◌≤◌, length}
use Rattle.gimli_core_abbrev.specs.TableChecks.{IsRun}
use Rattle.gimli_core_abbrev.proofs.checks.skip_in_order.Given as goal

-- the declarations so far
abbrev pub invariant-loop-passed : goal.invariant-loop-passed
invariant-loop-passed g l =
    let view = g.R.Reader.view in
    (run : IsRun l.first (view l.fn.input) (view l.input)) × (l.first + length run.declarations ≡ l.passed)
    × (l.passed ≤ l.limit)

abbrev pub decreases-loop-passed : goal.decreases-loop-passed
decreases-loop-passed g l = l.limit - l.passed
