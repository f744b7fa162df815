use Rattle.std.proofs.Common.{◌≡◌, ℕ, ◌<◌, IfOk, List, length, Result, option_map, sym, ap, ◌∙◌, subst, arith}
use Rattle.std.proofs.lemmas.List.{length-map}
use Rattle.addr2line_functions.specs.Error.{Error}
use Rattle.addr2line_functions.specs.Calls.{ReturnsAsOrNoMemory}
use Rattle.addr2line_functions.specs.Functions.{Function}
use Rattle.addr2line_functions.specs.InlinedCalls.{FunctionCalls, calls_of_function}
use Rattle.addr2line_functions.specs.EntryReferences.{HoldingUnit}
use Rattle.addr2line_functions.specs.CountedFunctions.{CountedCalls}
use Rattle.addr2line_unit.specs.KeptFunctions.{plain_calls, plain_functions, kept_function_in}
use Rattle.addr2line_unit.specs.ResolvedUnits.{ResolvedUnit, main_unit, first_answer, unit_of_functions, functions_of, IsKeptOf}
use Rattle.addr2line_unit.proofs.FunctionParses.{kept_are, calls_are, calls_at_offset}
use Rattle.addr2line_unit.proofs.unit.ResUnit.read_calls.Goals as goal

pub returns-in-Some-clause-calls : goal.returns-in-Some-clause-calls
returns-in-Some-clause-calls g c =
    let i = c.self.inside in
    let k = i.functions in
    let v = c.args.self.now.value in
    let naming = g.N.Names.naming c.args.names.now in
    let n = c.args.function in
    let offset = g.R.Offset.ReaderOffset.count c.in-Some.offset.0 in
    let P : Result FunctionCalls Error → Type 0 =
    λ x. ReturnsAsOrNoMemory (λ (f : CountedCalls). f.function) c.calls_of_function.result x in
    let Q : Result (List Function) Error → Type 0 = λ m. IsKeptOf m (option_map plain_functions k.functions) in
    let kept =
    subst Q (ap (λ (u : ResolvedUnit). functions_of u.value) c.self.view_is)
    (kept_are i.main.counted.unit i.load i.first k i.probes.name c.self.invariant.load_is
    c.self.invariant.functions_are) in
    let many : length k.calls ≡ length c.args.self.now.calls =
    sym (length-map k.calls (option_map plain_calls)) ∙ ap (λ (u : ResolvedUnit). length u.calls) c.self.view_is in
    let below : n < length k.calls = omega (arith, many, c.requires) in
    subst P
    (sym (calls_are k naming n c.in_ok-holder.holder (unit_of_functions (main_unit v) (first_answer v))
    c.in_ok-holder.ensures.unit kept c.self.invariant.functions_are.count_is below
    ∙ calls_at_offset c.in_ok-holder.holder.unit naming (kept_function_in k.functions n) offset c.in-Some.ensures
    ∙ ap (λ (h : HoldingUnit). calls_of_function h.unit naming offset) (sym c.holder.view_is)))
    c.calls_of_function.ensures.function

pub returns-in-Some-clause-counter : goal.returns-in-Some-clause-counter
returns-in-Some-clause-counter g c =
    let P : ℕ → Type 0 = λ n. IfOk c.calls_of_function.result (λ x. x.counter ≡ n) in
    subst P (ap (λ (u : ResolvedUnit). u.probes.name) c.self.view_is) c.calls_of_function.ensures.counter
