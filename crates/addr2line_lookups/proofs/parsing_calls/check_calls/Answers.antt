use Rattle.std.proofs.Common.{◌≡◌, ◌<◌, ◌∙◌, ap, length, map, refl, sym, subst, Ok, Err, arith}
use Rattle.std.proofs.lemmas.Result.{err_from_is_err_and}
use Rattle.std.proofs.lemmas.List.{length-map}
use Rattle.addr2line_unit.specs.EntryReferences.{KnownUnits}
use Rattle.addr2line_unit.specs.ResolvedUnits.{value_of_unit, plain_unit}
use Rattle.addr2line_lookups.specs.KeptCalls.{known_among, HoldCalls}
use Rattle.addr2line_lookups.specs.UnitParses.{ChecksOrNoMemory, check_unit_at, check_calls_of}
use Rattle.addr2line_lookups.proofs.AskedLines.{no_lines_none, no_lines_both}
use Rattle.addr2line_lookups.proofs.CallsLeft.{same_known}
use Rattle.addr2line_lookups.proofs.UnitWalks.{walk_goes_on, walk_refused, walk_ends, plain_so_far, plain_after_turn}
use Rattle.addr2line_lookups.proofs.UnitProbes.{looks_none, looks_after}
use Rattle.addr2line_lookups.proofs.KeptAhead.{units_further, calls_of_all}
use Rattle.addr2line_lookups.proofs.parsing_calls.check_calls.Goals as goal

pub loop-number-init : goal.loop-number-init
loop-number-init g c =
    let us = c.args.units.now.items in
    (refl, c.requires, looks_none 0 us, no_lines_none us, λ n below. absurd (omega (arith, below)))

pub loop-number-smaller : goal.loop-number-smaller
loop-number-smaller g c =
    let us = c.args.units.now.items in
    let vs = c.loop-number.units.items in
    let n = c.loop-number.number in
    let check = check_calls_of (known_among us c.args.supplement_units.now) in
    let same = plain_so_far check n us vs c.loop-number.invariant.0 in
    let many : length vs ≡ length us =
    sym (length-map vs plain_unit) ∙ ap length same ∙ length-map us plain_unit in
    let below : n < length vs = omega arith in
    omega (arith, many, below)

pub parse_unit_at-requires : goal.parse_unit_at-requires
parse_unit_at-requires g c =
    let us = c.args.units.now.items in
    let vs = c.loop-number.units.items in
    let s = c.args.supplement_units.now in
    let check = check_calls_of (known_among us s) in
    subst (λ (k : KnownUnits). HoldCalls k vs)
    (sym (same_known us vs s (plain_so_far check c.loop-number.number us vs c.loop-number.invariant.0)))
    c.loop-number.invariant.1

pub loop-number-preserved : goal.loop-number-preserved
loop-number-preserved g c =
    let us = c.args.units.now.items in
    let vs = c.loop-number.units.items in
    let ws = c.parse_unit_at.new.units.items in
    let s = c.args.supplement_units.now in
    let n = c.loop-number.number in
    let check = check_calls_of (known_among us s) in
    let known = same_known us vs s (plain_so_far check n us vs c.loop-number.invariant.0) in
    let P : KnownUnits → Type 0 =
    λ k. ChecksOrNoMemory (Ok tt) (check_unit_at (check_calls_of k) (map value_of_unit ws) n) in (
      walk_goes_on check n (map value_of_unit us) (map value_of_unit vs) c.loop-number.invariant.0
          (map value_of_unit ws) c.in_ok-parse_unit_at.ensures.values
          (subst P known c.in_ok-parse_unit_at.ensures.found),
      subst (λ (k : KnownUnits). HoldCalls k ws) known c.in_ok-parse_unit_at.ensures.calls,
      looks_after 0 us vs ws c.loop-number.invariant.2 c.in_ok-parse_unit_at.ensures.cost,
      no_lines_both us vs ws c.loop-number.invariant.3 c.in_ok-parse_unit_at.ensures.lines,
      units_further vs ws n c.loop-number.invariant.4 c.in_ok-parse_unit_at.ensures.values
          c.in_ok-parse_unit_at.ensures.cost.functions c.in_ok-parse_unit_at.ensures.kept,
    )

pub returns-in_err-parse_unit_at : goal.returns-in_err-parse_unit_at
returns-in_err-parse_unit_at g c =
    let us = c.args.units.now.items in
    let vs = c.loop-number.units.items in
    let ws = c.parse_unit_at.new.units.items in
    let s = c.args.supplement_units.now in
    let n = c.loop-number.number in
    let check = check_calls_of (known_among us s) in
    let known = same_known us vs s (plain_so_far check n us vs c.loop-number.invariant.0) in
    let turn = same_known vs ws s (plain_after_turn vs ws n c.in_err-parse_unit_at.ensures.values) in
    let p = err_from_is_err_and c.from_residual.result c.from_residual.ensures.1 in
    let P : KnownUnits → Type 0 =
    λ k. ChecksOrNoMemory (Err c.in_err-parse_unit_at.field-0.0)
    (check_unit_at (check_calls_of k) (map value_of_unit ws) n) in
    record {
      walk =
          walk_refused check n (map value_of_unit us) (map value_of_unit vs) c.loop-number.invariant.0
          (map value_of_unit ws) c.in_err-parse_unit_at.field-0.0 c.from_residual.result p.0 p.1 p.2
          c.in_err-parse_unit_at.ensures.values (subst P known c.in_err-parse_unit_at.ensures.found);
      kept = rw p.1 tt;
      calls = subst (λ (k : KnownUnits). HoldCalls k ws) (sym turn) c.in_err-parse_unit_at.ensures.calls;
      cost = looks_after 0 us vs ws c.loop-number.invariant.2 c.in_err-parse_unit_at.ensures.cost;
      lines = no_lines_both us vs ws c.loop-number.invariant.3 c.in_err-parse_unit_at.ensures.lines;
    }

pub returns : goal.returns
returns g c =
    let us = c.args.units.now.items in
    let vs = c.loop-number.units.items in
    let s = c.args.supplement_units.now in
    let n = c.loop-number.number in
    let check = check_calls_of (known_among us s) in
    record {
      walk =
          walk_ends check n (map value_of_unit us) (map value_of_unit vs) c.loop-number.invariant.0
          (omega (arith, length-map vs value_of_unit));
      kept = calls_of_all vs n c.loop-number.invariant.4 (omega arith);
      calls =
          subst (λ (k : KnownUnits). HoldCalls k vs)
          (sym (same_known us vs s (plain_so_far check n us vs c.loop-number.invariant.0)))
          c.loop-number.invariant.1;
      cost = c.loop-number.invariant.2;
      lines = c.loop-number.invariant.3;
    }
