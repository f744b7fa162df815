use Rattle.std.proofs.Common.{subst, sym, List, Vec, Global, Result}
use Rattle.gimli_lines_rows.specs.Error.{Error}
use Rattle.gimli_lines_rows.specs.Calls.{ReturnsAsOrNoMemory}
use Rattle.gimli_lines_rows.specs.Range.{Range}
use Rattle.gimli_dwarf.specs.EntryViews.{raw_attributes}
use Rattle.addr2line_ranges.proofs.UnitRangeLemmas.{entry_ranges-found}
use Rattle.addr2line_ranges.proofs.declarations.ranges_of_entry.Goals as goal

pub returns : goal.returns
returns g c =
    let P : Result (List Range) Error → Type 0 =
    λ r. ReturnsAsOrNoMemory (λ (v : Vec Range Global). v.items) c.entry_ranges.result r in
    subst P (sym (entry_ranges-found c.args.unit.now
    (raw_attributes g.R.Reader.view g.R.Offset.ReaderOffset.count c.args.attributes.now) c.in_ok-facts.facts
    c.in_ok-facts.ensures)) c.entry_ranges.ensures
