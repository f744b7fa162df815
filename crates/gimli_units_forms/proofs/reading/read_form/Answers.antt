use Rattle.std.proofs.Common.{arith, sym, ◌∙◌}
use Rattle.std.proofs.lemmas.Result.{err_from_is_err_and}
use Rattle.gimli_core_abbrev.proofs.NumberReadSizes.{Below-unsigned_16}
use Rattle.gimli_units_forms.proofs.FinalFormLemmas.{final_form-next, final_form-fault, final_form-other, final_form-same}
use Rattle.gimli_units_forms.proofs.reading.read_form.Goals as goal

pub returns-in_err-form : goal.returns-in_err-form
returns-in_err-form g c =
    let p = err_from_is_err_and c.from_residual.result c.from_residual.ensures.1 in
    let indirect = sym c.eq.ensures ∙ c.loop-form-test.true in
    rw (p.1, p.2)
    (sym c.loop-form.invariant ∙ sym (final_form-same _ _ _ indirect c.skip_indirect.ensures.same)
    ∙ final_form-fault _ _ _ indirect c.in_err-form.ensures)

pub loop-form-smaller : goal.loop-form-smaller
loop-form-smaller g c =
    (Below-unsigned_16 (g.R.Reader.view c.skip_indirect.new.reader) (omega (arith, c.skip_indirect.ensures.fewer))).left
    _ _ c.in_ok-form.ensures

pub loop-form-preserved : goal.loop-form-preserved
loop-form-preserved g c =
    let indirect = sym c.eq.ensures ∙ c.loop-form-test.true in
    sym (final_form-next _ _ _ _ indirect c.in_ok-form.ensures)
    ∙ final_form-same _ _ _ indirect c.skip_indirect.ensures.same
    ∙ c.loop-form.invariant

pub returns : goal.returns
returns g c = sym c.loop-form.invariant ∙ final_form-other _ _ (sym c.eq.ensures ∙ c.loop-form-test.false)
