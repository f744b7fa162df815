use Rattle.linemap_emit_laws.proofs.UnitsApart.{tables_agree}
use Rattle.linemap_emit_laws.proofs.unit_difference_laws.tables_agree_outside.Goals as goal

pub returns : goal.returns
returns c = tables_agree
