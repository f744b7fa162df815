use Rattle.linemap_commands.proofs.ImageLemmas.{reports_table}
use Rattle.linemap_commands.proofs.images.Refusal.report.Goals as goal

pub returns-in-Table : goal.returns-in-Table
returns-in-Table g c =
    reports_table c.args.self c.in-Table.error c.code.result.now _ _ c.table_refused.result c.in-Table.is c.code.ensures
    c.table_refused.ensures.line c.table_refused.ensures.memory
