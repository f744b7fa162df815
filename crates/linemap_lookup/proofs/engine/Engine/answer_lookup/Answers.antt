use Rattle.std.proofs.Common.{◌∙◌, sym}
use Rattle.linemap_lookup.proofs.FrameSteps.{on_ok}
use Rattle.linemap_lookup.proofs.AnswerSteps.{by_frames, by_place}
use Rattle.linemap_lookup.proofs.engine.Engine.answer_lookup.Goals as goal

pub returns-then-asks_frames : goal.returns-then-asks_frames
returns-then-asks_frames g c =
    on_ok c.answer_frames.result (by_frames (sym c.asks_frames.ensures ∙ c.if-asks_frames.true))
    c.answer_frames.ensures

pub returns-else-asks_frames : goal.returns-else-asks_frames
returns-else-asks_frames g c =
    on_ok c.answer_place.result
    (by_place (sym c.asks_frames.ensures ∙ c.if-asks_frames.false) c.answer_place.ensures.same)
    c.answer_place.ensures.answer
