use Rattle.linemap_output.proofs.WritingLemmas.{appends_then_keeps, prefix_after, prefix_longer, prefix_whole}
use Rattle.linemap_output.proofs.error_line.write_error_line.Goals as goal

pub returns-in_err-write_text-clause-prefix : goal.returns-in_err-write_text-clause-prefix
returns-in_err-write_text-clause-prefix g c = prefix_longer _ _ _ _ c.write_text.ensures.prefix

pub returns-in_err-write_text-2-clause-prefix : goal.returns-in_err-write_text-2-clause-prefix
returns-in_err-write_text-2-clause-prefix g c =
    prefix_after _ _ _ _ _ c.in_ok-write_text.ensures.whole
    (prefix_longer _ _ c.args.message.now _ c.write_text-2.ensures.prefix)

pub returns-in_err-write_text-3-clause-prefix : goal.returns-in_err-write_text-3-clause-prefix
returns-in_err-write_text-3-clause-prefix g c =
    prefix_after _ _ _ _ _ c.in_ok-write_text.ensures.whole
    (prefix_after _ _ _ c.args.message.now _ c.in_ok-write_text-2.ensures.whole
    (prefix_longer _ _ c.args.detail.now _ c.write_text-3.ensures.prefix))

pub returns-in_err-write_text-4-clause-prefix : goal.returns-in_err-write_text-4-clause-prefix
returns-in_err-write_text-4-clause-prefix g c =
    prefix_after _ _ _ _ _ c.in_ok-write_text.ensures.whole
    (prefix_after _ _ _ c.args.message.now _ c.in_ok-write_text-2.ensures.whole
    (prefix_after _ _ _ c.args.detail.now _ c.in_ok-write_text-3.ensures.whole c.write_text-4.ensures.prefix))

pub returns-clause-prefix : goal.returns-clause-prefix
returns-clause-prefix g c =
    prefix_after _ _ _ _ _ c.in_ok-write_text.ensures.whole
    (prefix_after _ _ _ c.args.message.now _ c.in_ok-write_text-2.ensures.whole
    (prefix_after _ _ _ c.args.detail.now _ c.in_ok-write_text-3.ensures.whole
    (prefix_whole _ _ _ (appends_then_keeps _ _ _ _ c.in_ok-write_text-4.ensures.whole c.flush.ensures))))
