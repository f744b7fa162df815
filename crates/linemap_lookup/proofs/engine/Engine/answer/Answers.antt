use Rattle.std.proofs.Common.{refl, rules}
use Rattle.linemap_lookup.proofs.FrameSteps.{on_ok}
use Rattle.linemap_lookup.proofs.AnswerSteps.{whole_answer}
use Rattle.linemap_lookup.proofs.engine.Engine.answer.Goals as goal

pub returns : goal.returns
returns g c =
    on_ok c.push_end.result
    (λ end. whole_answer c.args.address c.clear.new.self (record c.clear.new.self { text = c.push_address.new.text })
    c.answer_if_any.new.self.answer (record c.answer_if_any.new.self.answer { text = c.push_end.new.text })
    c.unwrap_or.result c.clear.ensures.text c.clear.ensures.errors c.clear.ensures.memory (search rules)
    c.in_ok-push_address.ensures refl refl c.in_ok-answer_if_any.ensures end refl refl) c.push_end.ensures
