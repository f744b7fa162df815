use Rattle.gimli_units_forms.specs.AttributeSkipping.{skip_values}
use Rattle.gimli_units_forms.proofs.AfterLemmas.{skip_values-after}
use Rattle.gimli_core_abbrev.proofs.PlaceLemmas.{IsAfter-same}
use Rattle.gimli_units_forms.proofs.skipping.bytes_to_skip.Goals as goal

pub bytes_before-requires : goal.bytes_before-requires
unfolding skip_values
bytes_before-requires g c =
    IsAfter-same _ _ _ c.borrowed-place.ensures (skip_values-after _ _ _ _ c.in_ok-skip_bytes_and_values.ensures)
