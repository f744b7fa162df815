use Rattle.gimli_units_forms.proofs.AfterLemmas.{skip_values-after}
use Rattle.gimli_core_abbrev.proofs.PlaceLemmas.{IsAfter-same}
use Rattle.gimli_units_forms.proofs.skipping.skip_entry.Goals as goal

pub bytes_before-count-requires : goal.bytes_before-count-requires
bytes_before-count-requires g c =
    IsAfter-same _ _ _ c.borrowed-place.ensures (skip_values-after _ _ _ _ c.in_ok-skip_declared.ensures)
