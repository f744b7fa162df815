use Rattle.std.proofs.Common.{◌∙◌, refl, sym}
use Rattle.linemap_lookup.proofs.FrameSteps.{on_ok}
use Rattle.linemap_lookup.proofs.AnswerSteps.{nothing_frames, nothing_place}
use Rattle.linemap_lookup.proofs.engine.Engine.answer_nothing.Goals as goal

pub returns-then-asks_frames-clause-answer : goal.returns-then-asks_frames-clause-answer
returns-then-asks_frames-clause-answer c =
    on_ok c.push_no_frame.result
    (λ text. nothing_frames c.args.options.now c.args.self.now.answer _
    (sym c.asks_frames.ensures ∙ c.if-asks_frames.true) text refl refl) c.push_no_frame.ensures

pub returns-else-asks_frames-clause-answer : goal.returns-else-asks_frames-clause-answer
returns-else-asks_frames-clause-answer c =
    on_ok c.push_place_line.result
    (λ text. nothing_place c.args.options.now c.args.self.now.answer _
    (sym c.asks_frames.ensures ∙ c.if-asks_frames.false) text refl refl) c.push_place_line.ensures
