use Rattle.std.proofs.Common.{ℕ, Option, Result, ap, ◌∙◌, subst}
use Rattle.addr2line_functions.specs.Error.{Error}
use Rattle.addr2line_functions.specs.Calls.{Returns}
use Rattle.addr2line_root.specs.Searches.{AtMostProbes}
use Rattle.addr2line_unit.specs.KeptFunctions.{number_in, number_probes}
use Rattle.addr2line_unit.specs.ResolvedUnits.{ResolvedUnit, functions_of}
use Rattle.addr2line_unit.proofs.FunctionParses.{kept_are, number_is, number_looks, number_below}
use Rattle.addr2line_unit.proofs.ResolvedViews.{below_calls}
use Rattle.addr2line_unit.proofs.unit.ResUnit.find_function.Goals as goal

pub returns-clause-below : goal.returns-clause-below
returns-clause-below g c =
    below_calls c.self.inside.functions c.find.result
    (number_below c.self.inside.functions c.args.probe c.find.result c.find.ensures.number
    c.self.invariant.functions_are.count_is)

pub returns-clause-number : goal.returns-clause-number
returns-clause-number g c = λ kept.
    let i = c.self.inside in
    let P : Result (Option ℕ) Error → Type 0 = λ m. Returns c.find.result m in
    subst P
    (number_is i.functions.functions _ c.args.probe
    (kept_are i.main.counted.unit i.load i.first i.functions i.probes.name
    c.self.invariant.load_is c.self.invariant.functions_are)
    (ap (λ (u : ResolvedUnit). u.keeps_functions) c.self.view_is ∙ kept)
    ∙ ap (λ (u : ResolvedUnit). number_in (functions_of u.value) c.args.probe) c.self.view_is)
    c.find.ensures.number

pub returns-clause-cost : goal.returns-clause-cost
returns-clause-cost g c =
    let i = c.self.inside in
    let P : ResolvedUnit → Type 0 =
    λ u. AtMostProbes (number_probes (functions_of u.value)) u.probes c.find.new.probes in
    subst P c.self.view_is
    (number_looks i.functions.functions _ i.probes c.find.new.probes
    (kept_are i.main.counted.unit i.load i.first i.functions i.probes.name
    c.self.invariant.load_is c.self.invariant.functions_are)
    c.find.ensures.cost)
