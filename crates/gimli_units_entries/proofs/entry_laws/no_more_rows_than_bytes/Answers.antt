use Rattle.gimli_units_entries.proofs.RowLaws.{rows-few}
use Rattle.gimli_units_entries.proofs.entry_laws.no_more_rows_than_bytes.Goals as goal

pub returns : goal.returns
returns c = λ limit chosen w. rows-few limit chosen w
