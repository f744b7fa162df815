use Rattle.std.proofs.Common.{subst, sym, List, Result}
use Rattle.std.proofs.lemmas.Result.{err_from_is_err_and}
use Rattle.addr2line_ranges.specs.Error.{Error}
use Rattle.addr2line_ranges.specs.Calls.{ReturnsAsOrNoMemory}
use Rattle.addr2line_ranges.specs.Range.{Range}
use Rattle.addr2line_ranges.specs.EntryViews.{raw_attributes}
use Rattle.addr2line_ranges.specs.UnitLines.{lines_of_unit}
use Rattle.addr2line_root.specs.RootRanges.{RootRanges}
use Rattle.addr2line_root.proofs.KeptUnits.{ranges_if_declared, ranges_if_refused}
use Rattle.addr2line_root.proofs.ranges.ranges_of_attributes.Goals as goal

pub returns-clause-ranges : goal.returns-clause-ranges
returns-clause-ranges g c =
    let u = c.args.unit.now.counted.unit in
    let attributes = raw_attributes g.R.Reader.view g.R.Offset.ReaderOffset.count c.args.attributes.now in
    let P : Result (List Range) Error → Type 0 =
    λ r. ReturnsAsOrNoMemory (λ (v : RootRanges). v.ranges) c.or_by_program.result r in
    subst P
    (sym (ranges_if_declared u (lines_of_unit u) attributes c.in_ok-declared.declared.value.items
    c.in_ok-declared.ensures.ranges))
    c.or_by_program.ensures.ranges

pub returns-in_err-declared-clause-ranges : goal.returns-in_err-declared-clause-ranges
returns-in_err-declared-clause-ranges g c =
    let u = c.args.unit.now.counted.unit in
    let attributes = raw_attributes g.R.Reader.view g.R.Offset.ReaderOffset.count c.args.attributes.now in
    let p = err_from_is_err_and c.from_residual.result c.from_residual.ensures.1 in
    rw (p.1, p.2) (λ m.
    ranges_if_refused u (lines_of_unit u) attributes c.in_err-declared.field-0.0 (c.in_err-declared.ensures.ranges m))
