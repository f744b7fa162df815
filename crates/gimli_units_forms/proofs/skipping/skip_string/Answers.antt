use Rattle.gimli_units_forms.proofs.RunLemmas.{skip_text-is}
use Rattle.gimli_units_forms.proofs.skipping.skip_string.Goals as goal

pub returns : goal.returns
returns g c = skip_text-is _ _ _ _ c.in_ok-length.ensures c.in_ok-skip.ensures c.advance.ensures
