use Rattle.std.proofs.Common.{◌∙◌, subst, List, Result, ap}
use Rattle.addr2line_ranges.specs.Error.{Error}
use Rattle.addr2line_ranges.specs.Calls.{ReturnsAsOrNoMemory}
use Rattle.addr2line_ranges.specs.AttributeValues.{RawAttribute}
use Rattle.addr2line_ranges.specs.EntryViews.{entry_of}
use Rattle.addr2line_ranges.specs.UnitHeaders.{DebugUnit}
use Rattle.addr2line_ranges.specs.UnitLines.{lines_of_unit}
use Rattle.addr2line_ranges.specs.UnitRanges.{is_partial}
use Rattle.addr2line_ranges.specs.Contexts.{ContextUnit, unit_of_root}
use Rattle.addr2line_root.specs.RootRanges.{unit_with}
use Rattle.addr2line_root.proofs.RootLemmas.{not_partial}
use Rattle.addr2line_root.proofs.root.UnitRoot.read.Goals as goal

pub returns-clause-unit : goal.returns-clause-unit
returns-clause-unit g c =
    let u = c.args.unit.now.counted.unit in
    let root = entry_of g.R.Reader.view g.R.Offset.ReaderOffset.count c.args.root.now in
    let P : Result ContextUnit Error → Type 0 = λ x. ReturnsAsOrNoMemory (unit_with u) c.of_root.result x in
    subst P (ap (λ (attributes : List RawAttribute). unit_of_root u (lines_of_unit u) attributes) c.attrs.ensures
    ∙ not_partial u (lines_of_unit u) root c.is_partial.result
    (c.is_partial.ensures ∙ ap (λ (h : DebugUnit). is_partial h.kind root.tag) c.header.ensures)
    c.if-is_partial.false)
    c.of_root.ensures.unit
