use Rattle.std.proofs.Common.{◌∙◌, ap, sym, inl, inr, Err}
use Rattle.std.proofs.lemmas.Result.{err_from_is_err_and}
use Rattle.addr2line_unit.specs.ResolvedUnits.{ResolvedUnit}
use Rattle.addr2line_lookups.specs.UnitParses.{check_functions_of}
use Rattle.addr2line_lookups.proofs.CallsLeft.{leaves_functions, leaves_value}
use Rattle.addr2line_lookups.proofs.CallsOfUnits.{value_left, functions_kept, counts_left, runs_left}
use Rattle.addr2line_lookups.proofs.KeptFunctionLists.{functions_read}
use Rattle.addr2line_lookups.proofs.UnitProbes.{looks_nowhere, looks_unchanged}
use Rattle.addr2line_lookups.proofs.AskedFunctions.{memory_refused}
use Rattle.addr2line_lookups.proofs.parsing_functions.check_functions_of.Goals as goal

pub returns-in_err-read_functions : goal.returns-in_err-read_functions
returns-in_err-read_functions g c =
    let old = c.args.unit.now in
    let new = c.read_functions.new.self in
    let p = err_from_is_err_and c.from_residual.result c.from_residual.ensures.1 in
    record {
      value = ap (λ (u : ResolvedUnit). u.value) c.in_err-read_functions.ensures.err;
      found = inr (p.1 ∙ ap Err (p.2 ∙ c.in_err-read_functions.ensures.refusal));
      kept = rw (p.1, p.2) (λ other. absurd (memory_refused _ c.in_err-read_functions.ensures.refusal other));
      calls =
          leaves_value old new (ap (λ (u : ResolvedUnit). u.value) c.in_err-read_functions.ensures.err)
          (ap (λ (u : ResolvedUnit). u.calls) c.in_err-read_functions.ensures.err);
      cost = looks_unchanged 0 old new c.in_err-read_functions.ensures.err;
      lines = ap (λ (u : ResolvedUnit). u.keeps_lines) c.in_err-read_functions.ensures.err;
    }

pub returns : goal.returns
returns g c =
    let old = c.args.unit.now in
    let new = c.read_functions.new.self in
    let read = c.in_ok-read_functions.ensures.ok in
    let kept = functions_kept old new read in
    let counts = counts_left old new read in
    record {
      value = value_left old new read;
      found = inl (ap check_functions_of (sym (value_left old new read)) ∙ c.check_kept.ensures kept);
      kept = λ answered. kept;
      calls = leaves_functions old new read;
      cost = looks_nowhere old new counts.0 (runs_left old new read) counts.1 (functions_read old new read);
      lines = counts.1;
    }
