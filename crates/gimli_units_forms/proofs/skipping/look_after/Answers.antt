use Rattle.std.proofs.Common.{sym, ◌∙◌}
use Rattle.std.proofs.lemmas.Result.{err_from_is_err_and}
use Rattle.gimli_units_forms.proofs.WayWidths.{way_width}
use Rattle.gimli_units_forms.proofs.SkippingLemmas.{skip_ways-run_fault, skip_ways-look_answers}
use Rattle.gimli_units_forms.proofs.skipping.look_after.Goals as goal

pub returns-in_err-skip_run : goal.returns-in_err-skip_run
returns-in_err-skip_run g c = λ ways.
    let p = err_from_is_err_and c.from_residual.result c.from_residual.ensures.1 in
    rw (p.1, p.2) (skip_ways-run_fault _ _ _ ways _ _ (sym (way_width _ _ ∙ c.requires)) c.in_err-skip_run.ensures)

pub returns : goal.returns
returns g c = λ ways.
    skip_ways-look_answers _ _ _ ways _ _ _ _ (sym (way_width _ _ ∙ c.requires)) c.in_ok-skip_run.ensures c.look.ensures
