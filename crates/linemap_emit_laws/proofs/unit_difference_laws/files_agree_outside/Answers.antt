use Rattle.linemap_emit_laws.proofs.UnitsApart.{files_agree}
use Rattle.linemap_emit_laws.proofs.unit_difference_laws.files_agree_outside.Goals as goal

pub returns : goal.returns
returns c = files_agree
