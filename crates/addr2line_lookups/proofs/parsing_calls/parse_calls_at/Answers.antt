use Rattle.std.proofs.Common.{◌<◌, ◌∙◌, refl, sym, ap, subst, length, Result, Ok, Err, map, arith}
use Rattle.std.proofs.lemmas.Result.{err_from_is_err_and}
use Rattle.addr2line_unit.specs.Error.{Error}
use Rattle.addr2line_unit.specs.EntryReferences.{KnownUnits}
use Rattle.addr2line_unit.specs.ResolvedUnits.{value_of_unit}
use Rattle.addr2line_lookups.specs.KeptCalls.{known_among, HoldCalls}
use Rattle.addr2line_lookups.specs.UnitParses.{ChecksOrNoMemory, check_unit_at, check_calls_of}
use Rattle.addr2line_lookups.proofs.AskedLines.{no_lines_none, no_lines_both}
use Rattle.addr2line_lookups.proofs.KeptLines.{same_length}
use Rattle.addr2line_lookups.proofs.UnitTurns.{no_check_past}
use Rattle.addr2line_lookups.proofs.CallsOfUnits.{count_here}
use Rattle.addr2line_lookups.proofs.KeptCallsAt.{functions_at, known_now, checked_now, pass_further, all_checked, refused_at}
use Rattle.addr2line_lookups.proofs.UnitProbes.{looks_none, looks_after}
use Rattle.addr2line_lookups.proofs.KeptAhead.{calls_further, calls_of_unit, no_calls_past}
use Rattle.addr2line_lookups.proofs.parsing_calls.parse_calls_at.Goals as goal

pub returns-then-number-len-clause-found : goal.returns-then-number-len-clause-found
returns-then-number-len-clause-found g c =
    no_check_past c.args.units.now.items c.args.number
    (check_calls_of (known_among c.args.units.now.items c.args.supplement_units.now)) (omega arith)

pub returns-then-number-len-clause-lines : goal.returns-then-number-len-clause-lines
returns-then-number-len-clause-lines g c = no_lines_none c.args.units.now.items

pub returns-then-number-len-clause-kept : goal.returns-then-number-len-clause-kept
returns-then-number-len-clause-kept g c = no_calls_past c.args.units.now.items c.args.number (omega arith)

pub loop-function-init : goal.loop-function-init
loop-function-init g c =
    let us = c.args.units.now.items in
    let n = c.args.number in
    let below : n < length us = omega arith in (
      refl,
      c.requires.calls,
      count_here us n c.index.result.now below c.index.ensures ∙ sym c.function_count-count.ensures.calls,
      λ m less. absurd (omega (arith, less)),
      looks_none 0 us,
      no_lines_none us,
      λ m less. absurd (omega (arith, less)),
    )

pub parse_calls_of-requires : goal.parse_calls_of-requires
parse_calls_of-requires g c =
    let us = c.args.units.now.items in
    let vs = c.loop-function.units.items in
    let s = c.args.supplement_units.now in
    let below : c.args.number < length us = omega arith in
    let same = same_length vs us c.loop-function.invariant.0 in
    let many = c.loop-function.invariant.2 in
    record {
      number = omega (arith, same, below);
      function = omega (arith, many, c.loop-function-test.true);
      calls =
          subst (λ known. HoldCalls known vs) (sym (known_now s us c.args.number vs c.loop-function.invariant.0))
          c.loop-function.invariant.1;
    }

pub loop-function-preserved : goal.loop-function-preserved
loop-function-preserved g c =
    let us = c.args.units.now.items in
    let vs = c.loop-function.units.items in
    let ws = c.parse_calls_of.new.units.items in
    let s = c.args.supplement_units.now in
    let n = c.args.number in
    let f = c.loop-function.function in
    let known = known_now s us n vs c.loop-function.invariant.0 in (
      c.in_ok-parse_calls_of.ensures.values ∙ c.loop-function.invariant.0,
      subst (λ (k : KnownUnits). HoldCalls k ws) known c.in_ok-parse_calls_of.ensures.calls,
      c.in_ok-parse_calls_of.ensures.count ∙ c.loop-function.invariant.2,
      pass_further s us n f c.loop-function.invariant.3
          (checked_now s us n vs c.loop-function.invariant.0 f (Ok tt) c.in_ok-parse_calls_of.ensures.found),
      looks_after 0 us vs ws c.loop-function.invariant.4 c.in_ok-parse_calls_of.ensures.cost,
      no_lines_both us vs ws c.loop-function.invariant.5 c.in_ok-parse_calls_of.ensures.lines,
      calls_further vs ws n f c.loop-function.invariant.6 c.in_ok-parse_calls_of.ensures.cost.functions
          (c.in_ok-parse_calls_of.ensures.cost.functions.functions n
          (c.loop-function.invariant.4.functions.functions n c.requires.functions))
          c.in_ok-parse_calls_of.ensures.kept,
    )

pub returns-in_err-parse_calls_of : goal.returns-in_err-parse_calls_of
returns-in_err-parse_calls_of g c =
    let us = c.args.units.now.items in
    let vs = c.loop-function.units.items in
    let ws = c.parse_calls_of.new.units.items in
    let s = c.args.supplement_units.now in
    let n = c.args.number in
    let f = c.loop-function.function in
    let u = c.index.result.now in
    let below : n < length us = omega arith in
    let known = known_now s us n vs c.loop-function.invariant.0 in
    let p = err_from_is_err_and c.from_residual.result c.from_residual.ensures.1 in
    let count =
    c.function_count-count.ensures.functions (functions_at us n u below c.index.ensures c.requires.functions) in
    let P : Result (Unit {0}) Error → Type 0 =
    λ r. ChecksOrNoMemory r (check_unit_at (check_calls_of (known_among us s)) (map value_of_unit us) n) in
    record {
      values = c.in_err-parse_calls_of.ensures.values ∙ c.loop-function.invariant.0;
      calls = subst (λ (k : KnownUnits). HoldCalls k ws) known c.in_err-parse_calls_of.ensures.calls;
      cost = looks_after 0 us vs ws c.loop-function.invariant.4 c.in_err-parse_calls_of.ensures.cost;
      lines = no_lines_both us vs ws c.loop-function.invariant.5 c.in_err-parse_calls_of.ensures.lines;
      found =
          subst P (sym (p.1 ∙ ap Err p.2))
          (refused_at s us n u below c.index.ensures c.function_count-count.result count f _ c.loop-function-test.true
          c.loop-function.invariant.3
          (checked_now s us n vs c.loop-function.invariant.0 f _ c.in_err-parse_calls_of.ensures.found));
      kept = rw p.1 tt;
    }

pub returns : goal.returns
returns g c =
    let us = c.args.units.now.items in
    let s = c.args.supplement_units.now in
    let n = c.args.number in
    let u = c.index.result.now in
    let below : n < length us = omega arith in
    let count =
    c.function_count-count.ensures.functions (functions_at us n u below c.index.ensures c.requires.functions) in
    record {
      values = c.loop-function.invariant.0;
      calls = c.loop-function.invariant.1;
      cost = c.loop-function.invariant.4;
      lines = c.loop-function.invariant.5;
      found =
          all_checked s us n u below c.index.ensures c.function_count-count.result count c.loop-function.function
          (omega (arith, c.loop-function-test.false)) c.requires.readable c.loop-function.invariant.3;
      kept =
          calls_of_unit us c.loop-function.units.items n u below c.index.ensures c.loop-function.invariant.0
          c.function_count-count.result c.loop-function.function count (omega (arith, c.loop-function-test.false))
          (c.loop-function.invariant.4.functions.functions n c.requires.functions) c.loop-function.invariant.6;
    }
