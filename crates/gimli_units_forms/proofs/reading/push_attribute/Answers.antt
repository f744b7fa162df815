use Rattle.gimli_core_abbrev.proofs.PlaceLemmas.{Goes-on}
use Rattle.gimli_units_forms.proofs.AfterLemmas.{Goes-final_form}
use Rattle.gimli_units_forms.proofs.reading.push_attribute.Goals as goal

pub push_in_form-requires : goal.push_in_form-requires
push_in_form-requires g c = Goes-on _ _ _ _ _ (Goes-final_form _) c.requires c.in_ok-form.ensures
