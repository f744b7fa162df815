use Rattle.std.proofs.lemmas.Result.{err_from_is_err_and}
use Rattle.gimli_dwarf.proofs.UnitSteps.{refused_line_header, refused_low_pc}
use Rattle.gimli_dwarf.proofs.unit.Unit.read_program.Goals as goal

pub returns-in_err-line_program : goal.returns-in_err-line_program
returns-in_err-line_program g c =
    let p = err_from_is_err_and c.from_residual.result c.from_residual.ensures.1 in
    rw (p.1, p.2) (λ m.
    refused_line_header c.args.dwarf.now.file c.args.self.now _ _ _ (c.in_err-line_program.ensures m))

pub returns-in_err-low_pc : goal.returns-in_err-low_pc
returns-in_err-low_pc g c =
    let p = err_from_is_err_and c.from_residual-in_err-low_pc.result c.from_residual-in_err-low_pc.ensures.1 in
    rw (p.1, p.2) (λ m.
    refused_low_pc c.args.dwarf.now.file c.args.self.now _ _ _ _
    c.in_ok-line_program.ensures (c.in_err-low_pc.ensures m))
