use Rattle.std.proofs.Common.{◌≡◌, ℕ, List, IfOk, Result, sym, ap, ◌∙◌, subst}
use Rattle.addr2line_functions.specs.Error.{Error}
use Rattle.addr2line_functions.specs.Calls.{ReturnsAsOrNoMemory}
use Rattle.addr2line_functions.specs.Results.{and_then}
use Rattle.addr2line_functions.specs.EntryReferences.{HoldingUnit}
use Rattle.addr2line_functions.specs.Functions.{Function, functions_of_unit}
use Rattle.addr2line_functions.specs.CountedFunctions.{CountedFunctions}
use Rattle.addr2line_unit.specs.ResolvedUnits.{ResolvedUnit}
use Rattle.addr2line_unit.proofs.unit.ResUnit.parse_functions.Goals as goal

pub returns-clause-counter : goal.returns-clause-counter
returns-clause-counter g c =
    let P : ℕ → Type 0 = λ n. IfOk c.functions_of_unit.result (λ f. f.counter ≡ n) in
    subst P (ap (λ (u : ResolvedUnit). u.probes.name) c.self.view_is) c.functions_of_unit.ensures.counter

pub returns-clause-functions : goal.returns-clause-functions
returns-clause-functions g c =
    let P : Result (List Function) Error → Type 0 =
    λ m. ReturnsAsOrNoMemory (λ (f : CountedFunctions). f.functions) c.functions_of_unit.result m in
    subst P
    (sym (ap (λ (r : Result HoldingUnit Error). and_then r (λ h. functions_of_unit h.unit)) c.in_ok-holder.ensures.unit
    ∙ ap (λ (h : HoldingUnit). functions_of_unit h.unit) (sym c.holder.view_is)))
    c.functions_of_unit.ensures.functions
