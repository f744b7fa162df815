use Rattle.std.proofs.Common.{refl}
use Rattle.linemap_lookup.proofs.FrameSteps.{on_ok}
use Rattle.linemap_lookup.proofs.AnswerSteps.{refused_all}
use Rattle.linemap_lookup.proofs.lookups.push_refused.Goals as goal

pub returns : goal.returns
returns c =
    on_ok c.push_no_frame.result
    (λ text. refused_all c.args.options.now c.args.address _ c.args.error c.args.answer.now _ _
    c.in_ok-push_refusal.ensures text refl refl) c.push_no_frame.ensures
