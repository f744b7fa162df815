use Rattle.std.proofs.Common.{◌≡◌, option_map, ap, sym, ◌∙◌, Ok, Some, Option}
use Rattle.std.proofs.lemmas.Result.{err_from_is_err_and}
use Rattle.addr2line_unit.specs.FirstAnswers.{SplitLoad, PendingLoad}
use Rattle.addr2line_lookups.proofs.FirstLoads.{ok_load, copies}
use Rattle.addr2line_lookups.proofs.waiting.copy_load_at.Goals as goal

pub returns-in_err-copy-in-Some : goal.returns-in_err-copy-in-Some
returns-in_err-copy-in-Some g c =
    let p = err_from_is_err_and c.from_residual.result c.from_residual.ensures.1 in
    rw (p.1, p.2) (λ m. absurd (copies c.in-Some.load.now _ (c.in_err-copy-in-Some.ensures m)))

pub returns-in_ok-copy-in-Some : goal.returns-in_ok-copy-in-Some
returns-in_ok-copy-in-Some g c =
    let copied : ok_load c.in-Some.load.now ≡ Ok c.in_ok-copy-in-Some.field-0 = c.in_ok-copy-in-Some.ensures in
    let same : c.in-Some.load.now ≡ c.in_ok-copy-in-Some.field-0 = cc in
    ap (λ (o : Option PendingLoad). Ok (option_map (λ p. p.load) o)) (sym c.in-Some.ensures)
    ∙ ap (λ (l : SplitLoad). Ok (Some l)) same

pub returns-in-None : goal.returns-in-None
returns-in-None g c = ap (λ (o : Option PendingLoad). Ok (option_map (λ p. p.load) o)) (sym c.in-None.ensures)
