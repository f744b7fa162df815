use Rattle.std.proofs.Common.{ℕ, List, length, get_or, ap, sym, ◌∙◌, arith}
use Rattle.gimli_units_forms.specs.AttributeReading.{final_form}
use Rattle.gimli_units_forms.proofs.FinalFormLemmas.{final_form-run}
use Rattle.gimli_units_forms.proofs.reading.skip_indirect.Goals as goal

pub returns-clause-same : goal.returns-clause-same
returns-clause-same g c =
    let bytes = c.as_bytes.ensures.value in
    let many = ap length bytes in
    ap (final_form 0x16) c.advance.ensures
    ∙ final_form-run c.count_indirect-count.result (g.R.Reader.view c.args.reader.now)
    (omega (arith, c.count_indirect-count.ensures.within, many))
    (λ k below. ap (λ (bs : List ℕ). get_or bs k 0) (sym bytes) ∙ c.count_indirect-count.ensures.each k below)
