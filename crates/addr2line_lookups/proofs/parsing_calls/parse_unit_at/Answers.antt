use Rattle.std.proofs.Common.{◌∙◌, ap, sym, subst, map, List, Result, Err}
use Rattle.std.proofs.lemmas.Result.{err_from_is_err_and}
use Rattle.addr2line_unit.specs.Error.{Error}
use Rattle.addr2line_unit.specs.EntryReferences.{KnownUnits}
use Rattle.addr2line_unit.specs.ResolvedUnits.{AnsweredUnit, value_of_unit}
use Rattle.addr2line_lookups.specs.KeptCalls.{known_among, HoldCalls}
use Rattle.addr2line_lookups.specs.UnitParses.{ChecksOrNoMemory, check_unit_at, check_calls_of}
use Rattle.addr2line_lookups.proofs.AskedLines.{no_lines_both, no_stop}
use Rattle.addr2line_lookups.proofs.UnitWalks.{plain_after_turn}
use Rattle.addr2line_lookups.proofs.CallsLeft.{same_known}
use Rattle.addr2line_lookups.proofs.KeptCallsAt.{functions_refused_at, readable_of}
use Rattle.addr2line_lookups.proofs.UnitProbes.{looks_after}
use Rattle.addr2line_lookups.proofs.parsing_calls.parse_unit_at.Goals as goal

pub parse_calls_at-requires : goal.parse_calls_at-requires
parse_calls_at-requires g c =
    let us = c.args.units.now.items in
    let vs = c.parse_functions_at.new.units.items in
    let s = c.args.supplement_units.now in
    let known =
    same_known us vs s (plain_after_turn us vs c.args.number c.in_ok-parse_functions_at.ensures.values) in
    record {
      functions = c.in_ok-parse_functions_at.ensures.kept (no_stop _);
      readable = readable_of (map value_of_unit vs) c.args.number c.in_ok-parse_functions_at.ensures.found;
      calls =
          subst (λ (k : KnownUnits). HoldCalls k vs) (sym known)
          (c.in_ok-parse_functions_at.ensures.calls (known_among us s) c.requires);
    }

pub returns-in_err-parse_functions_at : goal.returns-in_err-parse_functions_at
returns-in_err-parse_functions_at g c =
    let us = c.args.units.now.items in
    let vs = c.parse_functions_at.new.units.items in
    let s = c.args.supplement_units.now in
    let p = err_from_is_err_and c.from_residual.result c.from_residual.ensures.1 in
    let P : Result (Unit {0}) Error → Type 0 =
    λ r. ChecksOrNoMemory r (check_unit_at (check_calls_of (known_among us s)) (map value_of_unit vs) c.args.number) in
    record {
      values = c.in_err-parse_functions_at.ensures.values;
      calls = c.in_err-parse_functions_at.ensures.calls (known_among us s) c.requires;
      cost = c.in_err-parse_functions_at.ensures.cost;
      lines = c.in_err-parse_functions_at.ensures.lines;
      found =
          subst P (sym (p.1 ∙ ap Err p.2))
          (functions_refused_at (known_among us s) (map value_of_unit vs) c.args.number _
          c.in_err-parse_functions_at.ensures.found);
      kept = rw p.1 tt;
    }

pub returns : goal.returns
returns g c =
    let us = c.args.units.now.items in
    let vs = c.parse_functions_at.new.units.items in
    let ws = c.parse_calls_at.new.units.items in
    let s = c.args.supplement_units.now in
    let n = c.args.number in
    let r = c.parse_calls_at.result in
    let known = same_known us vs s (plain_after_turn us vs n c.in_ok-parse_functions_at.ensures.values) in
    let P : KnownUnits → Type 0 =
    λ k. ChecksOrNoMemory r (check_unit_at (check_calls_of k) (map value_of_unit vs) n) in
    let Q : List AnsweredUnit → Type 0 =
    λ values. ChecksOrNoMemory r (check_unit_at (check_calls_of (known_among us s)) values n) in
    record {
      values = c.parse_calls_at.ensures.values ∙ c.in_ok-parse_functions_at.ensures.values;
      calls = subst (λ (k : KnownUnits). HoldCalls k ws) known c.parse_calls_at.ensures.calls;
      cost = looks_after 0 us vs ws c.in_ok-parse_functions_at.ensures.cost c.parse_calls_at.ensures.cost;
      lines = no_lines_both us vs ws c.in_ok-parse_functions_at.ensures.lines c.parse_calls_at.ensures.lines;
      found = subst Q (sym c.parse_calls_at.ensures.values) (subst P known c.parse_calls_at.ensures.found);
      kept = c.parse_calls_at.ensures.kept;
    }
