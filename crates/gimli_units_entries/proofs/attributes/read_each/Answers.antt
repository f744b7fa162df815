use Rattle.gimli_units_forms.specs.AttributeReading.{attributes}
use Rattle.gimli_units_forms.proofs.PlaceLemmas.{IsAfter-IsAfter, IsAfter-fewer}
use Rattle.gimli_units_forms.proofs.FormSizes.{attributes-after}
use Rattle.gimli_units_entries.proofs.EntryReads.{moves_after, no_less, read_at, refused_at}
use Rattle.gimli_units_entries.proofs.attributes.read_each.Goals as goal

pub advance-requires : goal.advance-requires
advance-requires g c = rw c.borrowed-place.ensures c.requires

pub fill-requires : goal.fill-requires
fill-requires g c = moves_after _ _ _ _ c.requires c.borrowed-place.ensures c.advance.ensures

pub bytes_before-requires : goal.bytes_before-requires
bytes_before-requires g c =
    IsAfter-IsAfter _ _ _ (moves_after _ _ _ _ c.requires c.borrowed-place.ensures c.advance.ensures)
    (attributes-after _ _ _ _ _ _ c.in-Ok.ensures)

pub returns-in-Ok-clause-value : goal.returns-in-Ok-clause-value
returns-in-Ok-clause-value g c =
    read_at (attributes _ _ _) _ _ _ _ _ _ _ c.borrowed-place.ensures c.advance.ensures c.bytes_before.ensures.rest
    c.in-Ok.ensures

pub returns-in-Ok-clause-forward : goal.returns-in-Ok-clause-forward
returns-in-Ok-clause-forward g c =
    let fewer = IsAfter-fewer _ _ (attributes-after _ _ _ _ _ _ c.in-Ok.ensures) in (
      no_less _ _ _ _ _ _ c.requires c.bytes_before.ensures.within c.borrowed-place.ensures c.advance.ensures
          c.bytes_before.ensures.rest fewer,
      c.bytes_before.ensures.within,
    )

pub returns-in-Err-clause-value : goal.returns-in-Err-clause-value
returns-in-Err-clause-value g c = λ ne.
    refused_at (attributes _ _ _) _ _ _ _ _ c.borrowed-place.ensures c.advance.ensures (c.in-Err.ensures ne)
