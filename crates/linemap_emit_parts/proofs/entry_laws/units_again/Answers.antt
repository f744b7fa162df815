use Rattle.linemap_emit_parts.proofs.UnitsRead.{units_again as units_of_section}
use Rattle.linemap_emit_parts.proofs.entry_laws.units_again.Goals as goal

pub returns : goal.returns
returns c = units_of_section
