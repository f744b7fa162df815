use Rattle.std.proofs.Common.{rules}
use Rattle.gimli_units_entries.proofs.EntryReads.{after_fewer, reads_refused}
use Rattle.gimli_units_entries.proofs.NamedAttributeLemmas.{named_values-read, named_values-fault}
use Rattle.gimli_units_entries.proofs.WalkLemmas.{IsWithin-with_left}
use Rattle.gimli_units_entries.proofs.raw.EntriesRaw.read_named_attributes.Goals as goal

pub invariant_of-self : goal.invariant_of-self
invariant_of-self g c = IsWithin-with_left _ _ c.self.invariant (after_fewer _ _ _ c.advance.ensures)

pub returns-clause-value : goal.returns-clause-value
returns-clause-value g c =
    named_values-read _ _ _ _ _ _ _ _ c.self.view_is c.in_ok-count.ensures.value c.advance.ensures

pub returns-in_err-count-clause-value : goal.returns-in_err-count-clause-value
returns-in_err-count-clause-value g c =
    reads_refused _ c.from_residual.result _ _ _ _ c.from_residual.ensures.1
    (λ ne. named_values-fault _ _ _ _ _ _ c.self.view_is (c.in_err-count.ensures.value ne)) (search rules)
