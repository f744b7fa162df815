use Rattle.std.proofs.Common.{arith}
use Rattle.gimli_units_forms.proofs.FormSizes.{AtMost-attribute}
use Rattle.gimli_units_entries.proofs.WalkLemmas.{IsWithin-with_left, Takes-fewer}
use Rattle.gimli_units_entries.proofs.raw.EntriesRaw.read_attribute.Goals as goal

pub invariant_of-self : goal.invariant_of-self
invariant_of-self g c =
    IsWithin-with_left _ _ c.self.invariant
    (Takes-fewer _ _ _ _ _ c.parse_attribute_inline.ensures.value (AtMost-attribute _ _ _ _ (omega arith)))
