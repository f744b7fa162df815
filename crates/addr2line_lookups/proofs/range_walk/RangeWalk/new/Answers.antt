use Rattle.std.proofs.Common.{ℕ, zero-add, ap, ◌∙◌}
use Rattle.addr2line_lookups.specs.RangeWalks.{looks_from}
use Rattle.addr2line_lookups.proofs.RangeSteps.{all_left}
use Rattle.addr2line_lookups.proofs.RangeUnits.{comes_first}
use Rattle.addr2line_lookups.proofs.range_walk.RangeWalk.new.Goals as goal

pub returns-clause-stretches : goal.returns-clause-stretches
returns-clause-stretches c units = all_left units c.args.low c.args.high c.at.result c.at.ensures

pub returns-clause-units : goal.returns-clause-units
returns-clause-units c ranges n come = comes_first ranges c.args.low c.args.high c.at.result n c.at.ensures come

pub returns-clause-looks : goal.returns-clause-looks
returns-clause-looks c units ranges =
    zero-add (looks_from units c.args.low c.args.high ranges c.at.result.index)
    ∙ ap (λ (n : ℕ). looks_from units c.args.low c.args.high ranges n) c.at.ensures
