use Rattle.gimli_units_entries.proofs.RowLaws.{row-choice}
use Rattle.gimli_units_entries.proofs.entry_laws.choice_drops_attributes.Goals as goal

pub returns : goal.returns
returns c = λ limit chosen w next r h. row-choice limit chosen w next r h
