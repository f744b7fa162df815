use Rattle.linemap_text.proofs.AnsweringContexts.{context_in}
use Rattle.linemap_text.proofs.table_contexts.context_of.Goals as goal

pub returns-in-Ok : goal.returns-in-Ok
returns-in-Ok g c = context_in c.args.dwarf.file c.in-Ok.context.value.plain c.in-Ok.ensures.context
