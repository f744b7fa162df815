use Rattle.std.proofs.Common.{◌<◌, length, map, refl, arith}
use Rattle.std.proofs.lemmas.Result.{err_from_is_err_and}
use Rattle.addr2line_unit.specs.Contexts.{all_lines_or_refusal}
use Rattle.addr2line_unit.specs.ResolvedUnits.{plain_unit}
use Rattle.addr2line_lookups.proofs.AskedLines.{units_begin, unit_next, unit_refused, unit_reads, unit_kept, units_end, no_stop}
use Rattle.addr2line_lookups.proofs.KeptLines.{check_more, check_stops}
use Rattle.addr2line_lookups.proofs.ReadLines.{lines_none, lines_both}
use Rattle.addr2line_lookups.proofs.parsing.check_lines.Goals as goal

pub loop-number-init : goal.loop-number-init
loop-number-init g c =
    let us = c.args.units.now.items in
    (lines_none us, refl, units_begin us 0 refl)

pub returns-in_err-check_at-clause-found : goal.returns-in_err-check_at-clause-found
returns-in_err-check_at-clause-found g c =
    let p = err_from_is_err_and c.from_residual.result c.from_residual.ensures.1 in
    let us = c.args.units.now.items in
    let vs = c.loop-number.units.items in
    let below : c.loop-number.number < length vs = omega arith in
    rw (p.1, p.2) (λ m.
    check_stops us vs c.loop-number.invariant.0.values c.loop-number.number (all_lines_or_refusal (map plain_unit us))
    c.loop-number.invariant.1 _ below (c.in_err-check_at.ensures.found m))

pub loop-number-preserved : goal.loop-number-preserved
loop-number-preserved g c =
    let us = c.args.units.now.items in
    let vs = c.loop-number.units.items in
    let below : c.loop-number.number < length vs = omega arith in (
      lines_both c.loop-number.invariant.0 c.in_ok-check_at.ensures.change,
      check_more us vs c.loop-number.invariant.0.values c.loop-number.number (all_lines_or_refusal (map plain_unit us))
          c.loop-number.invariant.1 below c.in_ok-check_at.ensures.found,
      unit_next us vs c.loop-number.number c.loop-number.invariant.2 c.check_at.new.units.items
          c.in_ok-check_at.ensures.reads c.loop-number.invariant.0.values c.in_ok-check_at.ensures.change.cost.more
          c.in_ok-check_at.ensures.found (c.in_ok-check_at.ensures.kept (no_stop _)),
    )

pub returns-in_err-check_at-clause-asked : goal.returns-in_err-check_at-clause-asked
returns-in_err-check_at-clause-asked g c =
    let p = err_from_is_err_and c.from_residual.result c.from_residual.ensures.1 in
    rw (p.1, p.2) (λ other.
    unit_refused c.args.units.now.items c.loop-number.units.items c.loop-number.number c.loop-number.invariant.2
    c.check_at.new.units.items c.in_err-check_at.ensures.reads c.loop-number.invariant.0.values
    c.in_err-check_at.ensures.change.cost.more _ other c.in_err-check_at.ensures.found c.in_err-check_at.ensures.kept)

pub returns-clause-asked : goal.returns-clause-asked
returns-clause-asked g c = λ answered.
    units_end c.args.units.now.items c.loop-number.units.items c.loop-number.number c.loop-number.invariant.2
    (omega arith)

pub returns-in_err-check_at-clause-reads : goal.returns-in_err-check_at-clause-reads
returns-in_err-check_at-clause-reads g c =
    unit_reads c.args.units.now.items c.loop-number.units.items c.loop-number.number c.loop-number.invariant.2
    c.check_at.new.units.items c.in_err-check_at.ensures.reads

pub returns-clause-reads : goal.returns-clause-reads
returns-clause-reads g c = c.loop-number.invariant.2.walk.reads

pub returns-in_err-check_at-clause-free : goal.returns-in_err-check_at-clause-free
returns-in_err-check_at-clause-free g c =
    let p = err_from_is_err_and c.from_residual.result c.from_residual.ensures.1 in
    rw (p.1, p.2) (λ kept.
    c.in_err-check_at.ensures.free
    (unit_kept c.args.units.now.items c.loop-number.units.items c.loop-number.number c.loop-number.invariant.2 kept))

pub returns-in_err-check_at-clause-change : goal.returns-in_err-check_at-clause-change
returns-in_err-check_at-clause-change g c =
    lines_both c.loop-number.invariant.0 c.in_err-check_at.ensures.change

pub returns-clause-change : goal.returns-clause-change
returns-clause-change g c = c.loop-number.invariant.0
