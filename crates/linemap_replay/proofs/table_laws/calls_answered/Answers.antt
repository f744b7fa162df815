use Rattle.linemap_replay.proofs.TableCalls.{calls_answered_by}
use Rattle.linemap_replay.proofs.table_laws.calls_answered.Goals as goal

pub returns : goal.returns
returns c = λ is_big bytes us context calls are limit holds is.
    calls_answered_by us context calls (are context.plain.file limit holds) is
