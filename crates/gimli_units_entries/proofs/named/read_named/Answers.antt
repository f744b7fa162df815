use Rattle.gimli_units_forms.proofs.PlaceLemmas.{IsAfter-same}
use Rattle.gimli_units_entries.proofs.NamedAttributeLemmas.{named-after}
use Rattle.gimli_units_entries.proofs.named.read_named.Goals as goal

pub bytes_before-requires : goal.bytes_before-requires
bytes_before-requires g c = IsAfter-same _ _ _ c.borrowed-place.ensures (named-after _ _ _ _ _ _ _ c.in-Ok.ensures)
