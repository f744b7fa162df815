use Rattle.linemap_emit_laws.proofs.ListTablesRead.{table_again}
use Rattle.linemap_emit_laws.proofs.emission_laws.list_tables_again.Goals as goal

pub returns : goal.returns
returns c = table_again
