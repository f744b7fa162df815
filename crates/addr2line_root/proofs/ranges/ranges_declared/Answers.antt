use Rattle.std.proofs.Common.{List, Result, sym, ap, ◌∙◌, subst}
use Rattle.std.proofs.lemmas.Result.{err_from_is_err_and}
use Rattle.addr2line_ranges.specs.Error.{Error}
use Rattle.addr2line_ranges.specs.Calls.{ReturnsAsOrNoMemory}
use Rattle.addr2line_ranges.specs.DwarfFiles.{DwarfFile}
use Rattle.addr2line_ranges.specs.Range.{Range}
use Rattle.addr2line_ranges.specs.EntryViews.{raw_attributes}
use Rattle.addr2line_ranges.specs.ArangeIndexes.{IsIndexOf}
use Rattle.addr2line_ranges.specs.LastFacts.{LastFacts, facts_of, declared_by}
use Rattle.addr2line_ranges.specs.LastLists.{IsLastOf}
use Rattle.addr2line_ranges.specs.Results.{and_then}
use Rattle.addr2line_root.proofs.KeptUnits.{declared_of_unit, file_of_unit}
use Rattle.addr2line_root.proofs.ranges.ranges_declared.Goals as goal

pub declared_ranges-requires-clause-index : goal.declared_ranges-requires-clause-index
declared_ranges-requires-clause-index g c =
    subst (λ (file : DwarfFile). IsIndexOf file c.args.aranges.now)
    (sym (file_of_unit c.unit.inside.is_whole c.unit.inside.counted c.unit_ref-kept.result c.args.unit.now
    c.unit_ref-kept.ensures c.unit.view_is))
    c.requires.index

pub declared_ranges-requires-clause-last : goal.declared_ranges-requires-clause-last
declared_ranges-requires-clause-last g c =
    subst (λ (file : DwarfFile). IsLastOf file c.args.last.now)
    (sym (file_of_unit c.unit.inside.is_whole c.unit.inside.counted c.unit_ref-kept.result c.args.unit.now
    c.unit_ref-kept.ensures c.unit.view_is))
    c.requires.last

pub returns-clause-last : goal.returns-clause-last
returns-clause-last g c =
    subst (λ (file : DwarfFile). IsLastOf file c.declared_ranges.new.last)
    (file_of_unit c.unit.inside.is_whole c.unit.inside.counted c.unit_ref-kept.result c.args.unit.now
    c.unit_ref-kept.ensures c.unit.view_is)
    c.declared_ranges.ensures.last

pub returns-clause-ranges : goal.returns-clause-ranges
returns-clause-ranges g c =
    let kept = c.unit_ref-kept.result in
    let attributes = raw_attributes g.R.Reader.view g.R.Offset.ReaderOffset.count c.args.attributes.now in
    let P : Result (List Range) Error → Type 0 =
    λ r. ReturnsAsOrNoMemory (λ v. v.value.items) c.declared_ranges.result r in
    subst P
    (sym (ap (λ (r : Result LastFacts Error). and_then r (declared_by kept))
    {x = facts_of kept attributes} c.in_ok-facts.ensures)
    ∙ declared_of_unit c.unit.inside.is_whole c.unit.inside.counted kept c.args.unit.now
    c.unit_ref-kept.ensures c.unit.view_is c.unit.invariant attributes)
    c.declared_ranges.ensures.ranges

pub returns-in_err-facts-clause-ranges : goal.returns-in_err-facts-clause-ranges
returns-in_err-facts-clause-ranges g c =
    let kept = c.unit_ref-kept.result in
    let attributes = raw_attributes g.R.Reader.view g.R.Offset.ReaderOffset.count c.args.attributes.now in
    let p = err_from_is_err_and c.from_residual.result c.from_residual.ensures.1 in
    rw (p.1, p.2) (λ m.
    sym (declared_of_unit c.unit.inside.is_whole c.unit.inside.counted kept c.args.unit.now
    c.unit_ref-kept.ensures c.unit.view_is c.unit.invariant attributes)
    ∙ ap (λ (r : Result LastFacts Error). and_then r (declared_by kept))
    {x = facts_of kept attributes} (c.in_err-facts.ensures m))
