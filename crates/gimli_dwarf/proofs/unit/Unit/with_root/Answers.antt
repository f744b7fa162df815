use Rattle.std.proofs.Common.{◌≡◌, ℕ, List, Ok, sym, ap, ◌∙◌, subst, rules}
use Rattle.gimli_dwarf_spec.specs.Calls.{ReturnsOrNoMemory}
use Rattle.gimli_dwarf_spec.specs.Declarations.{Declaration}
use Rattle.gimli_dwarf_spec.specs.AttributeValues.{RawAttribute}
use Rattle.gimli_dwarf_spec.specs.EntryRows.{Row}
use Rattle.gimli_dwarf_spec.specs.EntryViews.{entry_of}
use Rattle.gimli_dwarf_spec.specs.DwarfFiles.{DwarfFile}
use Rattle.gimli_dwarf_spec.specs.UnitFacts.{root, facts_of}
use Rattle.gimli_dwarf.proofs.UnitSteps.{facts_with_limit, root_of_facts}
use Rattle.gimli_dwarf.proofs.unit.Unit.with_root.Goals as goal

pub returns-in_err-read_root-clause-unit : goal.returns-in_err-read_root-clause-unit
returns-in_err-read_root-clause-unit g c =
    let P : ℕ → Type 0 =
    λ n. ReturnsOrNoMemory c.from_residual-in_err-read_root.result
    (facts_with_limit n c.args.dwarf.now.file c.args.header) in
    let read : P g.R.Offset.ReaderOffset.limit = search rules in
    subst P (sym c.in_ok-abbreviations.ensures.limit) read

pub returns-clause-unit : goal.returns-clause-unit
returns-clause-unit g c =
    let P : ℕ → Type 0 =
    λ n. ReturnsOrNoMemory c.of_root.result (facts_with_limit n c.args.dwarf.now.file c.args.header) in
    let read : P g.R.Offset.ReaderOffset.limit = search rules in
    subst P (sym c.in_ok-abbreviations.ensures.limit) read

pub returns-clause-root : goal.returns-clause-root
returns-clause-root g c =
    let file : DwarfFile = c.args.dwarf.now.file in
    let table : List Declaration = c.in_ok-abbreviations.abbreviations.value in
    let limit : ℕ = g.R.Offset.ReaderOffset.limit in
    let r : Row = entry_of g.R.Reader.view g.R.Offset.ReaderOffset.count c.read_root.new.entry in
    let found : root limit c.args.header table ≡ Ok r =
    ap (root limit c.args.header) (sym c.deref.ensures) ∙ c.in_ok-read_root.ensures in
    let P : List RawAttribute → Type 0 =
    λ attributes. ReturnsOrNoMemory c.of_root.result (facts_of file c.args.header table attributes) in
    root_of_facts file c.args.header table r limit c.of_root.result c.in_ok-abbreviations.ensures.limit found
    (subst P c.attrs.ensures c.of_root.ensures)
