use Rattle.std.proofs.Common.{◌∙◌, subst}
use Rattle.linemap_output.specs.WriterBytes.{AppendsPrefix}
use Rattle.linemap_output.proofs.WritingLemmas.{appends_then_keeps, prefix_none, prefix_whole, keeps_same}
use Rattle.linemap_text.proofs.engine.write_answer.Goals as goal

pub returns-in_err-line-clause-prefix : goal.returns-in_err-line-clause-prefix
returns-in_err-line-clause-prefix g c = prefix_none _ _ _ (keeps_same (g.W.Write.contents c.args.out.now))

pub returns-in_err-write_text-clause-prefix : goal.returns-in_err-write_text-clause-prefix
returns-in_err-write_text-clause-prefix g c =
    subst (AppendsPrefix _ _) (c.deref.ensures ∙ c.in_ok-line.ensures.line) c.write_text.ensures.prefix

pub returns-in_err-flush-clause-prefix : goal.returns-in_err-flush-clause-prefix
returns-in_err-flush-clause-prefix g c =
    subst (AppendsPrefix _ _) (c.deref.ensures ∙ c.in_ok-line.ensures.line)
    (prefix_whole _ _ _ (appends_then_keeps _ _ _ _ c.in_ok-write_text.ensures.whole c.flush.ensures))

pub returns-clause-prefix : goal.returns-clause-prefix
returns-clause-prefix g c =
    subst (AppendsPrefix _ _) (c.deref.ensures ∙ c.in_ok-line.ensures.line)
    (prefix_whole _ _ _ (appends_then_keeps _ _ _ _ c.in_ok-write_text.ensures.whole c.flush.ensures))
