use Rattle.linemap_emit_parts.proofs.DeclarationsRead.{declarations_again as table_again}
use Rattle.linemap_emit_parts.proofs.entry_laws.declarations_again.Goals as goal

pub returns : goal.returns
returns c = table_again
