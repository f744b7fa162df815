use Rattle.std.proofs.Common.{inl, inr, rules}
use Rattle.std.proofs.lemmas.Result.{err_from_is_err_and}
use Rattle.gimli_dwarf.proofs.dwarf.Dwarf.load_sup.Goals as goal

pub returns-in_err-supplement-clause-refusal : goal.returns-in_err-supplement-clause-refusal
returns-in_err-supplement-clause-refusal g c =
    let p = err_from_is_err_and c.from_residual.result c.from_residual.ensures.1 in
    rw (p.1, p.2) (inl c.in_err-supplement.ensures.refusal)

pub returns-in-Ok-clause-ok : goal.returns-in-Ok-clause-ok
returns-in-Ok-clause-ok g c =
    (c.in_ok-supplement.supplement.file, c.in_ok-supplement.ensures.loaded, search rules)

pub returns-clause-refusal : goal.returns-clause-refusal
returns-clause-refusal g c =
    inr (c.in_ok-supplement.supplement.file, c.in_ok-supplement.ensures.loaded, search rules)
