use Rattle.std.proofs.Common.{sym, ap, ◌∙◌}
use Rattle.std.proofs.lemmas.Result.{err_from_is_err_and}
use Rattle.gimli_dwarf_spec.specs.UnitFacts.{UnitFacts, with_low_pc}
use Rattle.gimli_dwarf.proofs.BareUnitSteps.{bare-refused_program, bare-refused_begin, bare-begun}
use Rattle.gimli_dwarf.proofs.UnitSteps.{ok_facts}
use Rattle.gimli_dwarf.proofs.unit.Unit.check_program.Goals as goal

pub returns-in_err-check_line_header : goal.returns-in_err-check_line_header
returns-in_err-check_line_header g c =
    let p = err_from_is_err_and c.from_residual.result c.from_residual.ensures.1 in
    rw (p.1, p.2) (λ m. bare-refused_program c.args.dwarf.now.file c.args.self.now _ _ _
    (ap (λ (u : UnitFacts). u.header.encoding.address_size) c.self.view_is) _
    (c.in_err-check_line_header.ensures c.args.self.now.comp_dir c.args.self.now.name))

pub returns-in_err-begin : goal.returns-in_err-begin
returns-in_err-begin g c =
    let p = err_from_is_err_and c.from_residual-in_err-begin.result c.from_residual-in_err-begin.ensures.1 in
    rw (p.1, p.2) (λ m. bare-refused_begin c.args.dwarf.now.file c.args.self.now _ _ _
    (ap (λ (u : UnitFacts). u.header.encoding.address_size) c.self.view_is) _ _
    (c.in_ok-check_line_header.ensures c.args.self.now.comp_dir c.args.self.now.name) (c.in_err-begin.ensures m))

pub returns : goal.returns
returns g c =
    bare-begun c.args.dwarf.now.file c.args.self.now _ _ _
    (ap (λ (u : UnitFacts). u.header.encoding.address_size) c.self.view_is) _ _
    (c.in_ok-check_line_header.ensures c.args.self.now.comp_dir c.args.self.now.name) c.in_ok-begin.ensures
    c.requires.table c.requires.program
    ∙ ap (λ (u : UnitFacts). ok_facts (record u { bases = with_low_pc c.in_ok-begin.begin u.bases }))
    (sym c.self.view_is)
