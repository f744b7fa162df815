use Rattle.gimli_units_entries.proofs.ChoiceLemmas.{rows-choice}
use Rattle.gimli_units_entries.proofs.entry_laws.rows_by_choice.Goals as goal

pub returns : goal.returns
returns c = λ limit chosen w well. rows-choice limit chosen w well
