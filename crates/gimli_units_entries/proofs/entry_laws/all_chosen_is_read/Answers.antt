use Rattle.gimli_units_entries.proofs.RowLaws.{row-all}
use Rattle.gimli_units_entries.proofs.entry_laws.all_chosen_is_read.Goals as goal

pub returns : goal.returns
returns c = λ limit w. row-all limit w
