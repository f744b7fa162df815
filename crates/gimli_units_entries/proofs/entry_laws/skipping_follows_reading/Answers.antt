use Rattle.gimli_units_entries.proofs.RowLaws.{skip_values-as_read}
use Rattle.gimli_units_entries.proofs.entry_laws.skipping_follows_reading.Goals as goal

pub returns : goal.returns
returns c = λ limit specifications w next found h. skip_values-as_read limit specifications w next found h
