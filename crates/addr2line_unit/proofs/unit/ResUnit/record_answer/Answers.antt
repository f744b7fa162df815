use Rattle.std.proofs.Common.{is_some, ap, ◌∙◌}
use Rattle.addr2line_unit.specs.ResolvedUnits.{ResolvedUnit, undecided, pending_load}
use Rattle.addr2line_unit.proofs.FunctionParses.{nothing_pending}
use Rattle.addr2line_unit.proofs.unit.ResUnit.record_answer.Goals as goal

pub returns-then-is_some-clause-functions : goal.returns-then-is_some-clause-functions
returns-then-is_some-clause-functions g c = λ waits.
    let i = c.self.inside in
    nothing_pending i.main.counted.unit i.load i.first i.functions i.probes.name
    (ap (λ l. is_some (undecided l i.first)) c.self.invariant.load_is
    ∙ ap (λ (u : ResolvedUnit). is_some (pending_load u.value)) c.self.view_is ∙ waits)
    c.self.invariant.functions_are
