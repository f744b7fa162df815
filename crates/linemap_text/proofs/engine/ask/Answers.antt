use Rattle.linemap_text.proofs.AskLemmas.{flags_of_none, flags_of_stop}
use Rattle.linemap_text.proofs.engine.ask.Goals as goal

pub returns-in-Ok-clause-flags : goal.returns-in-Ok-clause-flags
returns-in-Ok-clause-flags g c = flags_of_none _ _ _ _ c.with_status.ensures

pub returns-in-Err-clause-flags : goal.returns-in-Err-clause-flags
returns-in-Err-clause-flags g c =
    flags_of_stop _ c.in-Err.stop _ _ c.report.result c.in-Err.ensures.stop c.report.ensures
