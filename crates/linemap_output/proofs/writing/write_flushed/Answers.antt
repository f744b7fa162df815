use Rattle.linemap_output.proofs.WritingLemmas.{appends_then_keeps, prefix_whole}
use Rattle.linemap_output.proofs.writing.write_flushed.Goals as goal

pub returns-clause-prefix : goal.returns-clause-prefix
returns-clause-prefix g c =
    prefix_whole _ _ _ (appends_then_keeps _ _ _ _ c.in_ok-write_text.ensures.whole c.flush.ensures)
