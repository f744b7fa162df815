use Rattle.gimli_units_entries.proofs.RowLaws.{rows-increase}
use Rattle.gimli_units_entries.proofs.entry_laws.offsets_grow.Goals as goal

pub returns : goal.returns
returns c = λ limit chosen w within. rows-increase limit chosen w within
