use Rattle.std.proofs.Common.{arith}
use Rattle.gimli_units_forms.proofs.FormSizes.{AtMost-skip_values}
use Rattle.gimli_units_entries.proofs.WalkLemmas.{IsWithin-with_left, Reads-fewer}
use Rattle.gimli_units_entries.proofs.raw.EntriesRaw.skip_entry.Goals as goal

pub invariant_of-self : goal.invariant_of-self
invariant_of-self g c =
    IsWithin-with_left _ _ c.self.invariant
    (Reads-fewer _ _ _ _ _ c.skip_entry.ensures (AtMost-skip_values _ _ _ (omega arith)))
