use Rattle.std.proofs.lemmas.Result.{err_from_is_err_and}
use Rattle.addr2line_root.proofs.root.UnitRoot.of_root.Goals as goal

pub returns-in_err-language-clause-unit : goal.returns-in_err-language-clause-unit
returns-in_err-language-clause-unit g c =
    let p = err_from_is_err_and c.from_residual-in_err-language.result c.from_residual-in_err-language.ensures.1 in
    rw (p.1, p.2) (λ m. cc (c.in_err-language.ensures m))
