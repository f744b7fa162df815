use Rattle.linemap_emit_rows.proofs.EmittedRowsBuilt.{sequences_readable as builds}
use Rattle.linemap_emit_rows.proofs.row_laws.sequences_readable.Goals as goal

pub returns : goal.returns
returns c = builds
