use Rattle.std.proofs.Common.{Result, Ok, sym, ap}
use Rattle.std.proofs.lemmas.Result.{err_from_is_err_and}
use Rattle.gimli_dwarf_spec.specs.Error.{Error}
use Rattle.gimli_dwarf_spec.specs.EntryViews.{raw_attributes}
use Rattle.gimli_dwarf_spec.specs.UnitFacts.{UnitFacts}
use Rattle.gimli_dwarf.specs.CachedFiles.{CachedFile}
use Rattle.gimli_dwarf.proofs.UnitSteps.{facts_by_steps}
use Rattle.gimli_dwarf.proofs.unit.Unit.before_program.Goals as goal

pub returns-in_err-found-clause-facts : goal.returns-in_err-found-clause-facts
returns-in_err-found-clause-facts g c =
    let p = err_from_is_err_and c.from_residual.result c.from_residual.ensures.1 in
    rw (p.1, p.2) (λ m. cc (c.in_err-found.ensures m))

pub returns-in_err-read_texts-clause-facts : goal.returns-in_err-read_texts-clause-facts
returns-in_err-read_texts-clause-facts g c =
    let p = err_from_is_err_and c.from_residual-in_err-read_texts.result c.from_residual-in_err-read_texts.ensures.1 in
    rw (p.1, p.2) (λ m. cc (c.in_err-read_texts.ensures m))

-- read, or refused
abbrev read : Result UnitFacts Error → Result (Result UnitFacts Error) Error
read r = Ok r

pub returns-clause-facts : goal.returns-clause-facts
returns-clause-facts g c =
    ap read (sym (facts_by_steps c.args.dwarf.now.file c.args.header c.args.abbreviations.value
    (raw_attributes g.R.Reader.view g.R.Offset.ReaderOffset.count c.args.attrs.now) _ _ _ _ _ _ _ c.found.view_is
    (ap (λ (d : CachedFile). d.file.sections.file_type) c.dwarf.view_is) c.in_ok-found.ensures c.new-bases.ensures
    c.dwo_id_of-dwo_id.ensures c.without_texts-unit.ensures c.in_ok-read_texts.ensures))
