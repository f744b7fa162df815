use Rattle.gimli_units_entries.proofs.PassedAttributeLemmas.{passes-in_walk}
use Rattle.gimli_units_entries.proofs.raw.EntriesRaw.skip_other_attributes.Goals as goal

pub returns-clause-passes : goal.returns-clause-passes
returns-clause-passes g c =
    passes-in_walk _ _ _ _ _ _ _ _ c.self.view_is c.first_others-count.ensures.passes c.advance.ensures
