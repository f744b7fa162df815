use Rattle.std.proofs.Common.{◌≡◌, ℕ, Option, Result, sym, ap, ◌∙◌, subst}
use Rattle.std.proofs.lemmas.Result.{err_from_is_err_and}
use Rattle.addr2line_unit.specs.Error.{Error}
use Rattle.addr2line_unit.specs.Calls.{ReturnsOrNoMemory}
use Rattle.addr2line_unit.specs.KeptFunctions.{number_in, number_probes}
use Rattle.addr2line_unit.specs.ResolvedUnits.{AnsweredUnit, ResolvedUnit, value_of_unit, functions_of, with_functions}
use Rattle.addr2line_lookups.specs.KeptCalls.{HoldsCalls}
use Rattle.addr2line_lookups.proofs.CallsOfUnits.{value_left, functions_kept, counts_left, calls_left, returns_or_none}
use Rattle.addr2line_lookups.proofs.UnitProbes.{looks_unchanged}
use Rattle.addr2line_lookups.proofs.LookupProbes.{looks_for_function_of}
use Rattle.addr2line_lookups.proofs.AskedFunctions.{memory_refused}
use Rattle.addr2line_lookups.proofs.function_place.find_number.Goals as goal

pub returns : goal.returns
returns g c =
    let u = c.args.unit.now in
    let w = c.read_functions.new.self in
    let new = c.find_function.new.self in
    let r = c.find_function.result in
    let is : w ≡ with_functions u = c.in_ok-read_functions.ensures.ok in
    let P : Result (Option ℕ) Error → Type 0 = λ m. ReturnsOrNoMemory r m in
    record {
      value = ap value_of_unit c.find_function.ensures.unit ∙ value_left u w is;
      calls = calls_left u w is new.probes new c.find_function.ensures.unit;
      number =
          subst P (ap (λ (v : AnsweredUnit). number_in (functions_of v) c.args.probe) (value_left u w is))
          (returns_or_none r _ (c.find_function.ensures.number (functions_kept u w is)));
      below = c.find_function.ensures.below;
      kept = λ answered.
          ap (λ (x : ResolvedUnit). x.keeps_functions) c.find_function.ensures.unit ∙ functions_kept u w is;
      lines = ap (λ (x : ResolvedUnit). x.keeps_lines) c.find_function.ensures.unit ∙ (counts_left u w is).1;
      cost =
          looks_for_function_of u w new is c.find_function.ensures.unit c.find_function.ensures.cost;
    }

pub returns-in_err-read_functions : goal.returns-in_err-read_functions
returns-in_err-read_functions g c =
    let p = err_from_is_err_and c.from_residual.result c.from_residual.ensures.1 in
    let same = c.in_err-read_functions.ensures.err in
    record {
      value = ap value_of_unit same;
      calls = λ known holds. let P : ResolvedUnit → Type 0 = HoldsCalls known in subst P (sym same) holds;
      number = rw (p.1, p.2) (λ m. absurd (m c.in_err-read_functions.ensures.refusal));
      below = rw p.1 tt;
      kept =
          rw (p.1, p.2) (λ other.
          absurd (memory_refused _ c.in_err-read_functions.ensures.refusal other));
      lines = ap (λ (x : ResolvedUnit). x.keeps_lines) same;
      cost = looks_unchanged (number_probes (functions_of c.args.unit.now.value)) c.args.unit.now
          c.read_functions.new.self same;
    }
