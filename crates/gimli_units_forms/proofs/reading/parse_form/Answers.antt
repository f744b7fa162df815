use Rattle.gimli_core_abbrev.proofs.PlaceLemmas.{IsAfter-self, IsAfter-IsAfter, IsAfter-same, Goes-on}
use Rattle.gimli_units_forms.proofs.AfterLemmas.{Goes-final_form}
use Rattle.gimli_units_forms.proofs.FormSizes.{value-after}
use Rattle.gimli_units_forms.proofs.reading.parse_form.Goals as goal

pub read_value-requires : goal.read_value-requires
read_value-requires g c =
    IsAfter-same _ _ _ c.borrowed-place.ensures
    (Goes-on _ _ _ _ _ (Goes-final_form _) (IsAfter-self _) c.in_ok-form.ensures)

pub bytes_before-count-requires : goal.bytes_before-count-requires
bytes_before-count-requires g c =
    IsAfter-same _ _ _ c.borrowed-place.ensures
    (IsAfter-IsAfter _ _ _ (Goes-on _ _ _ _ _ (Goes-final_form _) (IsAfter-self _) c.in_ok-form.ensures)
    (value-after _ _ _ _ _ _ _ _ c.in_ok-value.ensures.value))
