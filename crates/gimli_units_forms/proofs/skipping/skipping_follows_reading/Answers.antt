use Rattle.gimli_units_forms.proofs.SkipAgreementLemmas.{skip_values-attributes}
use Rattle.gimli_units_forms.proofs.skipping.skipping_follows_reading.Goals as goal

pub returns : goal.returns
returns c =
    λ limit encoding specifications view rest all h. skip_values-attributes limit encoding specifications view rest all
    h
