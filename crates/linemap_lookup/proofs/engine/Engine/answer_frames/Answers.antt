use Rattle.std.proofs.Common.{◌∙◌, Some, None, ap, subst}
use Rattle.std.specs.Prelude.{OnOk, if◌then◌else◌}
use Rattle.linemap_lookup.specs.AnswerBuffers.{GrowsByFrames}
use Rattle.linemap_lookup.proofs.engine.Engine.answer_frames.Goals as goal

pub returns : goal.returns
returns g c =
    subst (λ s. OnOk c.answer_frames.result (GrowsByFrames g.S.SplitSource.answers c.args.options.now c.args.address s
    c.args.self.now.loader.file c.args.source.now c.args.self.now.answer c.answer_frames.new.answer
    c.answer_frames.new.loader.file c.answer_frames.new.source))
    (c.symbol_if-symbol.ensures
    ∙ ap (λ t. if c.in_ok-has_symbol.has_symbol then Some t else None) c.deref.ensures ∙ c.in_ok-has_symbol.ensures)
    c.answer_frames.ensures
