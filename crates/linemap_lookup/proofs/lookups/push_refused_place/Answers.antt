use Rattle.std.proofs.Common.{refl}
use Rattle.linemap_lookup.proofs.FrameSteps.{on_ok}
use Rattle.linemap_lookup.proofs.AnswerSteps.{grows_more}
use Rattle.linemap_lookup.proofs.lookups.push_refused_place.Goals as goal

pub returns : goal.returns
returns c =
    on_ok c.push_place_line.result
    (λ text. grows_more c.args.answer.now _ _ _ _ c.in_ok-push_refusal.ensures text refl refl) c.push_place_line.ensures
