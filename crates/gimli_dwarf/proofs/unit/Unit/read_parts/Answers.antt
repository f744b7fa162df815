use Rattle.std.proofs.Common.{◌≡◌, ℕ, List, Option, option_map, Result, Ok, Err, sym, ap, ◌∙◌}
use Rattle.std.proofs.lemmas.Result.{err_from_is_err_and}
use Rattle.gimli_dwarf_spec.specs.Declarations.{Declaration}
use Rattle.gimli_dwarf_spec.specs.TableParsing.{table_at}
use Rattle.gimli_dwarf_spec.specs.EntryRows.{Row}
use Rattle.gimli_dwarf_spec.specs.EntryViews.{entry_of, raw_attributes}
use Rattle.gimli_dwarf_spec.specs.AttributeValues.{RawAttribute}
use Rattle.gimli_dwarf_spec.specs.UnitHeaders.{DebugUnit}
use Rattle.gimli_dwarf_spec.specs.DwarfFiles.{DwarfFile}
use Rattle.gimli_dwarf_spec.specs.UnitFacts.{UnitFacts, root, last_value_of_kind, line_reference_of, is_stmt_list}
use Rattle.gimli_dwarf.specs.RootValues.{RootValues, root_values}
use Rattle.gimli_dwarf.proofs.RootValueSteps.{ok_values}
use Rattle.gimli_dwarf.proofs.WholeParts.{parts-refused_root, parts-refused_header}
use Rattle.gimli_dwarf.proofs.unit.Unit.read_parts.Goals as goal

-- the values in a root's attributes
values_are : (values found : RootValues) → ok_values values ≡ ok_values found → values ≡ found
values_are values found is = cc

pub returns-in_err-read_root-clause-ok : goal.returns-in_err-read_root-clause-ok
returns-in_err-read_root-clause-ok g c =
    let file : DwarfFile = c.args.dwarf.now.file in
    let u : UnitFacts = c.args.self.now in
    let table : List Declaration = c.in_ok-abbreviations.abbreviations.value in
    let limit : ℕ = g.R.Offset.ReaderOffset.limit in
    let header : DebugUnit = c.self.inside.header in
    let same : u.header ≡ header = sym (ap (λ (x : UnitFacts). x.header) c.self.view_is) in
    let r = c.from_residual-in_err-read_root in
    let p = err_from_is_err_and r.result r.ensures.1 in
    rw (p.1, p.2) (λ ne.
    parts-refused_root file u limit table c.in_err-read_root.field-0.0 c.in_ok-abbreviations.ensures.limit
    (ap (λ (h : DebugUnit). table_at h.abbrev_offset file.sections.debug_abbrev) same
    ∙ ap (λ n. table_at n file.sections.debug_abbrev) (sym c.debug_abbrev_offset.ensures)
    ∙ c.in_ok-abbreviations.ensures.value)
    (ap (λ (h : DebugUnit). root limit h table) same
    ∙ ap (root limit header) (sym c.deref.ensures) ∙ c.in_err-read_root.ensures ne))

pub returns-in_err-line_program-clause-ok : goal.returns-in_err-line_program-clause-ok
returns-in_err-line_program-clause-ok g c =
    let view = g.R.Reader.view in
    let count = g.R.Offset.ReaderOffset.count in
    let file : DwarfFile = c.args.dwarf.now.file in
    let u : UnitFacts = c.args.self.now in
    let table : List Declaration = c.in_ok-abbreviations.abbreviations.value in
    let limit : ℕ = g.R.Offset.ReaderOffset.limit in
    let header : DebugUnit = c.self.inside.header in
    let same : u.header ≡ header = sym (ap (λ (x : UnitFacts). x.header) c.self.view_is) in
    let r : Row = entry_of view count c.read_root.new.entry in
    let line : Option ℕ = option_map count c.found.inside.line in
    let values : root_values (raw_attributes view count c.attrs.result.now) ≡ c.in_ok-found.found =
    values_are _ _ c.in_ok-found.ensures in
    let q = c.from_residual-in_err-line_program in
    let p = err_from_is_err_and q.result q.ensures.1 in
    rw (p.1, p.2) (λ ne.
    parts-refused_header file u limit table r line c.in_ok-abbreviations.ensures.limit
    (ap (λ (h : DebugUnit). table_at h.abbrev_offset file.sections.debug_abbrev) same
    ∙ ap (λ n. table_at n file.sections.debug_abbrev) (sym c.debug_abbrev_offset.ensures)
    ∙ c.in_ok-abbreviations.ensures.value)
    (ap (λ (h : DebugUnit). root limit h table) same
    ∙ ap (root limit header) (sym c.deref.ensures) ∙ c.in_ok-read_root.ensures)
    (ap (λ (attributes : List RawAttribute). last_value_of_kind line_reference_of is_stmt_list attributes)
    (sym c.attrs.ensures)
    ∙ ap (λ (v : RootValues). v.line) (values ∙ sym c.found.view_is))
    c.in_err-line_program.field-0.0
    (c.in_err-line_program.ensures ne))
