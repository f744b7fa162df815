use Rattle.std.proofs.Common.{◌∙◌, ap, map, refl, Option}
use Rattle.std.proofs.lemmas.Result.{err_from_is_err_and}
use Rattle.addr2line_unit.specs.Error.TheVariants.{Memory}
use Rattle.addr2line_unit.specs.Lines.{LineRow}
use Rattle.addr2line_unit.specs.PlaceLookups.{location_at}
use Rattle.addr2line_unit.specs.Contexts.{ranges_of, lines_of}
use Rattle.addr2line_unit.specs.ResolvedUnits.{plain_unit}
use Rattle.addr2line_lookups.proofs.AskedLines.{ranges_begin, ranges_end, range_next, range_found, range_refused, range_reads, range_kept, no_refusal}
use Rattle.addr2line_lookups.proofs.CallsLeft.{leaves_none, leaves_both}
use Rattle.addr2line_lookups.proofs.KeptFunctionLists.{no_functions_none, no_functions_both}
use Rattle.addr2line_lookups.proofs.UnitRows.{ok_row, answers_start, row_found, none_found, refusal_found}
use Rattle.addr2line_lookups.specs.declared.settle.UnitRow.{UnitRow}
use Rattle.addr2line_lookups.proofs.UnitProbes.{looks_begin, looks_end, refused_so}
use Rattle.addr2line_lookups.proofs.LookupProbes.{row_probes_among, rows_further, rows_stop}
use Rattle.addr2line_unit.specs.NumberedRanges.{covering_ranges}
use Rattle.addr2line_lookups.proofs.settle.find_row.Goals as goal

pub loop-range-init : goal.loop-range-init
loop-range-init g c = (
  refl,
  answers_start (map plain_unit c.args.units.now.items) c.args.probe c.args.ranges.now
      c.covering-covering.result c.requires c.covering-covering.ensures,
  leaves_none c.args.units.now.items,
  looks_begin (row_probes_among c.args.units.now.items c.args.probe (covering_ranges c.args.probe c.args.ranges.now))
      (row_probes_among c.args.units.now.items c.args.probe c.covering-covering.result) c.args.units.now.items
      (ap (row_probes_among c.args.units.now.items c.args.probe) c.covering-covering.ensures),
  ranges_begin c.args.probe c.args.units.now.items (covering_ranges c.args.probe c.args.ranges.now)
      c.covering-covering.result c.covering-covering.ensures,
  no_functions_none c.args.units.now.items,
)

pub returns-in_err-row-clause-found : goal.returns-in_err-row-clause-found
returns-in_err-row-clause-found g c =
    let p = err_from_is_err_and c.from_residual.result c.from_residual.ensures.1 in
    let us = c.args.units.now.items in
    let vs = c.loop-range.units.items in
    rw (p.1, p.2) (λ m.
    refusal_found us vs c.loop-range.invariant.0 c.args.probe c.in-Some.range c.loop-range.covering c.next.new.self
    c.in-Some.ensures.none (location_at ranges_of lines_of (map plain_unit us) c.args.probe) c.loop-range.invariant.1
    _ (c.in_err-row.ensures.found m))

pub returns-in-Some-2-clause-found : goal.returns-in-Some-2-clause-found
returns-in-Some-2-clause-found g c =
    let us = c.args.units.now.items in
    let vs = c.loop-range.units.items in
    row_found us vs c.loop-range.invariant.0 c.args.probe c.in-Some.range c.loop-range.covering c.next.new.self
    c.in-Some.ensures.none (location_at ranges_of lines_of (map plain_unit us) c.args.probe) c.loop-range.invariant.1
    c.in-Some-2.row (c.in_ok-row.ensures.found ∙ ap ok_row c.in-Some-2.is)

pub loop-range-preserved : goal.loop-range-preserved
loop-range-preserved g c =
    let us = c.args.units.now.items in
    let vs = c.loop-range.units.items in (
      c.in_ok-row.ensures.values ∙ c.loop-range.invariant.0,
      none_found us vs c.loop-range.invariant.0 c.args.probe c.in-Some.range c.loop-range.covering c.next.new.self
          c.in-Some.ensures.none (location_at ranges_of lines_of (map plain_unit us) c.args.probe)
          c.loop-range.invariant.1 (c.in_ok-row.ensures.found ∙ ap ok_row c.in_default-2.is),
      leaves_both us vs c.find_row_at.new.units.items c.loop-range.invariant.2 c.in_ok-row.ensures.calls,
      rows_further us vs c.loop-range.invariant.0 c.args.probe
          (row_probes_among us c.args.probe (covering_ranges c.args.probe c.args.ranges.now)) c.in-Some.range
          c.loop-range.covering c.next.new.self c.in-Some.ensures.none c.find_row_at.new.units.items
          c.loop-range.invariant.3 c.in_ok-row.ensures.cost (c.in_ok-row.ensures.found ∙ ap ok_row c.in_default-2.is),
      range_next c.args.probe us (covering_ranges c.args.probe c.args.ranges.now) vs c.in-Some.range
          c.loop-range.covering c.next.new.self c.in-Some.ensures.none c.loop-range.invariant.4
          c.find_row_at.new.units.items c.in_ok-row.ensures.reads c.loop-range.invariant.0
          c.in_ok-row.ensures.cost.more (c.in_ok-row.ensures.found ∙ ap ok_row c.in_default-2.is)
          (c.in_ok-row.ensures.kept (no_refusal _)),
      no_functions_both us vs c.find_row_at.new.units.items c.loop-range.invariant.5 c.in_ok-row.ensures.functions,
    )

pub returns-in-Some-2-clause-kept : goal.returns-in-Some-2-clause-kept
returns-in-Some-2-clause-kept g c = c.in_ok-row.ensures.kept (no_refusal _)

pub returns-in_err-row-clause-asked : goal.returns-in_err-row-clause-asked
returns-in_err-row-clause-asked g c =
    let p = err_from_is_err_and c.from_residual.result c.from_residual.ensures.1 in
    rw (p.1, p.2) (λ other.
    range_refused c.args.probe c.args.units.now.items (covering_ranges c.args.probe c.args.ranges.now)
    c.loop-range.units.items c.in-Some.range c.loop-range.covering c.next.new.self c.in-Some.ensures.none
    c.loop-range.invariant.4 c.find_row_at.new.units.items c.in_err-row.ensures.reads c.loop-range.invariant.0
    c.in_err-row.ensures.cost.more _ (refused_so (Option UnitRow) (Option LineRow) _ Memory other)
    c.in_err-row.ensures.found c.in_err-row.ensures.kept)

pub returns-in-Some-2-clause-asked : goal.returns-in-Some-2-clause-asked
returns-in-Some-2-clause-asked g c = λ answered.
    range_found c.args.probe c.args.units.now.items (covering_ranges c.args.probe c.args.ranges.now)
    c.loop-range.units.items c.in-Some.range c.loop-range.covering c.next.new.self c.in-Some.ensures.none
    c.loop-range.invariant.4 c.find_row_at.new.units.items c.in_ok-row.ensures.reads c.loop-range.invariant.0
    c.in_ok-row.ensures.cost.more c.in-Some-2.row (c.in_ok-row.ensures.found ∙ ap ok_row c.in-Some-2.is)
    (c.in_ok-row.ensures.kept (no_refusal _))

pub returns-clause-asked : goal.returns-clause-asked
returns-clause-asked g c = λ answered.
    ranges_end c.args.probe c.args.units.now.items (covering_ranges c.args.probe c.args.ranges.now)
    c.loop-range.covering c.loop-range.units.items c.in_default.ensures.none c.loop-range.invariant.4

pub returns-in_err-row-clause-reads : goal.returns-in_err-row-clause-reads
returns-in_err-row-clause-reads g c =
    range_reads c.args.probe c.args.units.now.items (covering_ranges c.args.probe c.args.ranges.now)
    c.loop-range.units.items c.in-Some.range c.loop-range.covering c.next.new.self c.in-Some.ensures.none
    c.loop-range.invariant.4 c.find_row_at.new.units.items c.in_err-row.ensures.reads

pub returns-in-Some-2-clause-reads : goal.returns-in-Some-2-clause-reads
returns-in-Some-2-clause-reads g c =
    range_reads c.args.probe c.args.units.now.items (covering_ranges c.args.probe c.args.ranges.now)
    c.loop-range.units.items c.in-Some.range c.loop-range.covering c.next.new.self c.in-Some.ensures.none
    c.loop-range.invariant.4 c.find_row_at.new.units.items c.in_ok-row.ensures.reads

pub returns-clause-reads : goal.returns-clause-reads
returns-clause-reads g c = c.loop-range.invariant.4.reads

pub returns-in_err-row-clause-calls : goal.returns-in_err-row-clause-calls
returns-in_err-row-clause-calls g c =
    leaves_both c.args.units.now.items c.loop-range.units.items c.find_row_at.new.units.items c.loop-range.invariant.2
    c.in_err-row.ensures.calls

pub returns-in-Some-2-clause-calls : goal.returns-in-Some-2-clause-calls
returns-in-Some-2-clause-calls g c =
    leaves_both c.args.units.now.items c.loop-range.units.items c.find_row_at.new.units.items c.loop-range.invariant.2
    c.in_ok-row.ensures.calls

pub returns-clause-calls : goal.returns-clause-calls
returns-clause-calls g c = c.loop-range.invariant.2

pub returns-in_err-row-clause-cost : goal.returns-in_err-row-clause-cost
returns-in_err-row-clause-cost g c =
    let us = c.args.units.now.items in
    rows_stop us c.loop-range.units.items c.loop-range.invariant.0 c.args.probe
    (row_probes_among us c.args.probe (covering_ranges c.args.probe c.args.ranges.now)) c.in-Some.range
    c.loop-range.covering c.next.new.self c.in-Some.ensures.none c.find_row_at.new.units.items c.loop-range.invariant.3
    c.in_err-row.ensures.cost

pub returns-in-Some-2-clause-cost : goal.returns-in-Some-2-clause-cost
returns-in-Some-2-clause-cost g c =
    let us = c.args.units.now.items in
    rows_stop us c.loop-range.units.items c.loop-range.invariant.0 c.args.probe
    (row_probes_among us c.args.probe (covering_ranges c.args.probe c.args.ranges.now)) c.in-Some.range
    c.loop-range.covering c.next.new.self c.in-Some.ensures.none c.find_row_at.new.units.items c.loop-range.invariant.3
    c.in_ok-row.ensures.cost

pub returns-clause-cost : goal.returns-clause-cost
returns-clause-cost g c =
    let us = c.args.units.now.items in
    looks_end (row_probes_among us c.args.probe (covering_ranges c.args.probe c.args.ranges.now))
    (row_probes_among us c.args.probe c.loop-range.covering) us c.loop-range.units.items c.loop-range.invariant.3

pub returns-in_err-row-clause-free : goal.returns-in_err-row-clause-free
returns-in_err-row-clause-free g c =
    let p = err_from_is_err_and c.from_residual.result c.from_residual.ensures.1 in
    rw (p.1, p.2) (λ kept.
    refused_so (Option LineRow) (Option UnitRow) _ Memory
    (c.in_err-row.ensures.free
    (range_kept c.args.probe c.args.units.now.items (covering_ranges c.args.probe c.args.ranges.now)
    c.loop-range.units.items c.in-Some.range c.loop-range.covering c.next.new.self c.in-Some.ensures.none
    c.loop-range.invariant.4 kept)))

pub returns-in_err-row-clause-functions : goal.returns-in_err-row-clause-functions
returns-in_err-row-clause-functions g c =
    no_functions_both c.args.units.now.items c.loop-range.units.items c.find_row_at.new.units.items
    c.loop-range.invariant.5 c.in_err-row.ensures.functions

pub returns-in-Some-2-clause-functions : goal.returns-in-Some-2-clause-functions
returns-in-Some-2-clause-functions g c =
    no_functions_both c.args.units.now.items c.loop-range.units.items c.find_row_at.new.units.items
    c.loop-range.invariant.5 c.in_ok-row.ensures.functions

pub returns-clause-functions : goal.returns-clause-functions
returns-clause-functions g c = c.loop-range.invariant.5
