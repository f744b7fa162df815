use Rattle.std.proofs.Common.{◌≤◌, sym, ap, ◌∙◌, subst, Some, option_map}
use Rattle.std.proofs.lemmas.Option.{slice_get-get_or, slice_get_past}
use Rattle.addr2line_lookups.specs.CountedRuns.{RunCount}
use Rattle.addr2line_lookups.specs.ResolvedUnits.{runs_of_unit}
use Rattle.addr2line_context.proofs.UnitRuns.{runs_once}
use Rattle.addr2line_context.proofs.runs.runs_at.Goals as goal

pub returns-in-Some-clause-runs : goal.returns-in-Some-clause-runs
returns-in-Some-clause-runs g c =
    ap Some c.runs.ensures
    ∙ ap (option_map runs_of_unit)
    (ap Some c.in-Some.ensures.lookup.1
    ∙ sym (slice_get-get_or c.args.units.now c.args.number c.in-Some.unit.now c.in-Some.ensures.lookup.3.0))

pub returns-in-Some-clause-once : goal.returns-in-Some-clause-once
returns-in-Some-clause-once g c =
    subst (λ (r : RunCount). r.count ≤ 1) (sym c.runs.ensures) (runs_once c.in-Some.unit.now)

pub returns-in-None-clause-runs : goal.returns-in-None-clause-runs
returns-in-None-clause-runs g c =
    ap (option_map runs_of_unit) (sym (slice_get_past c.args.units.now c.args.number c.in-None.ensures.lookup.3))
