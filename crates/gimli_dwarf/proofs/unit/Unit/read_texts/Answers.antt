use Rattle.std.proofs.lemmas.Result.{err_from_is_err_and}
use Rattle.gimli_dwarf.proofs.unit.Unit.read_texts.Goals as goal

pub returns-in_err-name : goal.returns-in_err-name
returns-in_err-name g c =
    let p = err_from_is_err_and c.from_residual.result c.from_residual.ensures.1 in
    rw (p.1, p.2) (λ m. cc (c.in_err-name.ensures m))

pub returns-in_err-comp_dir : goal.returns-in_err-comp_dir
returns-in_err-comp_dir g c =
    let p = err_from_is_err_and c.from_residual-in_err-comp_dir.result c.from_residual-in_err-comp_dir.ensures.1 in
    rw (p.1, p.2) (λ m. cc (c.in_err-comp_dir.ensures m))
