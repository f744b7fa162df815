use Rattle.gimli_units_entries.proofs.OffsetLookupLemmas.{rows-lookups}
use Rattle.gimli_units_entries.proofs.entry_laws.rows_are_found_again.Goals as goal

pub returns : goal.returns
returns c = λ limit most u table h. rows-lookups limit most u table h
