use Rattle.linemap_emit_rows.proofs.EmittedRowsShown.{sequences_shown as law}
use Rattle.linemap_emit_rows.proofs.row_laws.sequences_shown.Goals as goal

pub returns : goal.returns
returns c = λ rules place files ss all. law rules place files ss all
