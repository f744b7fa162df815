use Rattle.std.proofs.Common.{◌∙◌, ap, sym}
use Rattle.addr2line_loader.specs.ResolvedFiles.{ResolvedFile}
use Rattle.linemap_lookup.proofs.FrameSteps.{on_ok}
use Rattle.linemap_lookup.proofs.AnswerSteps.{by_none}
use Rattle.linemap_lookup.proofs.engine.Engine.answer_if_any.Goals as goal

pub returns-in-Some : goal.returns-in-Some
returns-in-Some g c = rw (sym c.looked_up.ensures ∙ c.in-Some.is) c.answer_lookup.ensures

pub returns-in-None : goal.returns-in-None
returns-in-None g c =
    rw (sym c.looked_up.ensures ∙ c.in-None.is)
    (on_ok c.answer_nothing.result (by_none (ap (λ (l : ResolvedFile). l.file) c.answer_nothing.ensures.same))
    c.answer_nothing.ensures.answer)
