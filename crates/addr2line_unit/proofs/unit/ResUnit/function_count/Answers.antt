use Rattle.std.proofs.Common.{ap, ◌∙◌}
use Rattle.addr2line_unit.specs.KeptFunctions.{count_of_functions}
use Rattle.addr2line_unit.specs.ResolvedUnits.{ResolvedUnit, functions_of}
use Rattle.addr2line_unit.proofs.FunctionParses.{kept_are, count_is}
use Rattle.addr2line_unit.proofs.unit.ResUnit.function_count.Goals as goal

pub returns-clause-functions : goal.returns-clause-functions
returns-clause-functions g c = λ kept.
    let i = c.self.inside in
    c.count.ensures
    ∙ count_is i.functions _
    (kept_are i.main.counted.unit i.load i.first i.functions i.probes.name
    c.self.invariant.load_is c.self.invariant.functions_are)
    c.self.invariant.functions_are.count_is (ap (λ (u : ResolvedUnit). u.keeps_functions) c.self.view_is ∙ kept)
    ∙ ap (λ (u : ResolvedUnit). count_of_functions (functions_of u.value)) c.self.view_is
