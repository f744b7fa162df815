use Rattle.linemap_emit_parts.proofs.EntryListsRead.{walk_again as walk_of_entries}
use Rattle.linemap_emit_parts.proofs.entry_laws.walk_again.Goals as goal

pub returns : goal.returns
returns c = walk_of_entries
