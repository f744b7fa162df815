use Rattle.std.proofs.Common.{map, refl, arith}
use Rattle.std.proofs.lemmas.Result.{err_from_is_err_and}
use Rattle.std.proofs.lemmas.List.{length-map}
use Rattle.addr2line_unit.specs.ResolvedUnits.{value_of_unit}
use Rattle.addr2line_lookups.specs.UnitParses.{check_functions_of}
use Rattle.addr2line_lookups.proofs.AskedLines.{no_lines_none, no_lines_both, no_stop}
use Rattle.addr2line_lookups.proofs.CallsLeft.{leaves_none, leaves_both}
use Rattle.addr2line_lookups.proofs.UnitWalks.{walk_goes_on, walk_ends, walk_refused}
use Rattle.addr2line_lookups.proofs.UnitProbes.{looks_none, looks_after}
use Rattle.addr2line_lookups.proofs.KeptAhead.{functions_further, functions_of_all, functions_refused}
use Rattle.addr2line_lookups.proofs.AskedFunctions.{is_other}
use Rattle.addr2line_lookups.proofs.parsing_functions.check_functions.Goals as goal

pub loop-number-init : goal.loop-number-init
loop-number-init g c =
    let us = c.args.units.now.items in
    (refl, leaves_none us, looks_none 0 us, no_lines_none us, λ n below. absurd (omega (arith, below)))

pub loop-number-preserved : goal.loop-number-preserved
loop-number-preserved g c =
    let us = c.args.units.now.items in
    let vs = c.loop-number.units.items in
    let ws = c.parse_functions_at.new.units.items in (
      walk_goes_on check_functions_of c.loop-number.number (map value_of_unit us) (map value_of_unit vs)
          c.loop-number.invariant.0 (map value_of_unit ws) c.in_ok-parse_functions_at.ensures.values
          c.in_ok-parse_functions_at.ensures.found,
      leaves_both us vs ws c.loop-number.invariant.1 c.in_ok-parse_functions_at.ensures.calls,
      looks_after 0 us vs ws c.loop-number.invariant.2 c.in_ok-parse_functions_at.ensures.cost,
      no_lines_both us vs ws c.loop-number.invariant.3 c.in_ok-parse_functions_at.ensures.lines,
      functions_further vs ws c.loop-number.number c.loop-number.invariant.4
          c.in_ok-parse_functions_at.ensures.cost.functions (c.in_ok-parse_functions_at.ensures.kept (no_stop _)),
    )

pub returns-in_err-parse_functions_at : goal.returns-in_err-parse_functions_at
returns-in_err-parse_functions_at g c =
    let us = c.args.units.now.items in
    let vs = c.loop-number.units.items in
    let ws = c.parse_functions_at.new.units.items in
    let p = err_from_is_err_and c.from_residual.result c.from_residual.ensures.1 in
    record {
      walk =
          walk_refused check_functions_of c.loop-number.number (map value_of_unit us) (map value_of_unit vs)
          c.loop-number.invariant.0 (map value_of_unit ws) _ c.from_residual.result p.0 p.1 p.2
          c.in_err-parse_functions_at.ensures.values c.in_err-parse_functions_at.ensures.found;
      kept =
          rw (p.1, p.2) (λ other.
          functions_refused vs ws c.loop-number.number _ c.loop-number.invariant.4
          c.in_err-parse_functions_at.ensures.cost.functions
          (c.in_err-parse_functions_at.ensures.kept (is_other _ other))
          c.in_err-parse_functions_at.ensures.found other);
      calls = leaves_both us vs ws c.loop-number.invariant.1 c.in_err-parse_functions_at.ensures.calls;
      cost = looks_after 0 us vs ws c.loop-number.invariant.2 c.in_err-parse_functions_at.ensures.cost;
      lines = no_lines_both us vs ws c.loop-number.invariant.3 c.in_err-parse_functions_at.ensures.lines;
    }

pub returns : goal.returns
returns g c =
    let us = c.args.units.now.items in
    let vs = c.loop-number.units.items in
    record {
      walk =
          walk_ends check_functions_of c.loop-number.number (map value_of_unit us) (map value_of_unit vs)
          c.loop-number.invariant.0 (omega (arith, length-map vs value_of_unit));
      kept = functions_of_all vs c.loop-number.number c.loop-number.invariant.4 (omega arith);
      calls = c.loop-number.invariant.1;
      cost = c.loop-number.invariant.2;
      lines = c.loop-number.invariant.3;
    }
