use Rattle.std.proofs.Common.{◌<◌, ◌∙◌, ap, length, inr, Err, arith}
use Rattle.std.proofs.lemmas.Result.{err_from_is_err_and}
use Rattle.addr2line_lookups.specs.KeptCalls.{known_among}
use Rattle.addr2line_lookups.proofs.KeptLines.{same_length}
use Rattle.addr2line_lookups.proofs.UnitCalls.{on_ok_always}
use Rattle.addr2line_lookups.proofs.CallsOfUnits.{has_function}
use Rattle.addr2line_lookups.proofs.KeptCallsAt.{call_checked}
use Rattle.addr2line_lookups.proofs.parsing_calls.parse_calls_of.Goals as goal

pub returns-in_err-keep_calls : goal.returns-in_err-keep_calls
returns-in_err-keep_calls g c =
    let p = err_from_is_err_and c.from_residual.result c.from_residual.ensures.1 in
    record {
      values = c.in_err-keep_calls.ensures.values;
      calls = c.in_err-keep_calls.ensures.calls;
      count = c.in_err-keep_calls.ensures.count;
      cost = c.in_err-keep_calls.ensures.cost;
      lines = c.in_err-keep_calls.ensures.lines;
      found = inr (p.1 ∙ ap Err (p.2 ∙ c.in_err-keep_calls.ensures.refusal));
      kept = rw p.1 tt;
    }

pub keep_calls-requires : goal.keep_calls-requires
keep_calls-requires g c = record {
  unit = c.requires.number;
  function = has_function c.args.units.now.items c.args.number c.args.function c.requires.function;
  calls = c.requires.calls;
}

pub index-requires : goal.index-requires
index-requires g c =
    let same =
    same_length c.keep_calls.new.units.items c.args.units.now.items c.in_ok-keep_calls.ensures.values in
    omega (arith, same, c.requires.number)

pub returns : goal.returns
returns g c =
    let us = c.args.units.now.items in
    let vs = c.keep_calls.new.units.items in
    let same = same_length vs us c.in_ok-keep_calls.ensures.values in
    let below : c.args.number < length vs = omega (arith, same, c.requires.number) in
    record {
      values = c.in_ok-keep_calls.ensures.values;
      calls = c.in_ok-keep_calls.ensures.calls;
      count = c.in_ok-keep_calls.ensures.count;
      cost = c.in_ok-keep_calls.ensures.cost;
      lines = c.in_ok-keep_calls.ensures.lines;
      found =
          call_checked (known_among us c.args.supplement_units.now) us vs c.args.number c.args.function
          c.index.result.now c.check_kept.result c.in_ok-keep_calls.ensures.values below c.index.ensures
          c.in_ok-keep_calls.ensures.kept c.in_ok-keep_calls.ensures.calls c.check_kept.ensures;
      kept = on_ok_always c.check_kept.result c.in_ok-keep_calls.ensures.kept;
    }
