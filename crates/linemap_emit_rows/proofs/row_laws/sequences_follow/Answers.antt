use Rattle.linemap_emit_rows.proofs.EmittedRowsBuilt.{sequences_follow as builds}
use Rattle.linemap_emit_rows.proofs.row_laws.sequences_follow.Goals as goal

pub returns : goal.returns
returns c = builds
