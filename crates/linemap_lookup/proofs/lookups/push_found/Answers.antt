use Rattle.std.proofs.Common.{refl}
use Rattle.linemap_lookup.proofs.FrameSteps.{on_ok}
use Rattle.linemap_lookup.proofs.AnswerSteps.{found_all, found_some}
use Rattle.linemap_lookup.proofs.lookups.push_found.Goals as goal

pub returns-then-is_refused : goal.returns-then-is_refused
returns-then-is_refused g c =
    on_ok c.push_refusal.result
    (λ refused. found_some c.args.options.now c.args.address _ _ c.args.answer.now _ _ _
    c.in_ok-is_refused.ensures c.if-is_refused.true refl refl refused) c.push_refusal.ensures

pub returns-else-is_refused : goal.returns-else-is_refused
returns-else-is_refused g c =
    found_all c.args.options.now c.args.address _ _ c.args.answer.now _ _ c.in_ok-is_refused.ensures
    c.if-is_refused.false refl refl
