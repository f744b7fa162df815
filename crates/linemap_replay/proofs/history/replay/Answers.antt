use Rattle.std.proofs.Common.{ap, map, option_map, subst, sym}
use Rattle.std.proofs.lemmas.Result.{err_from_is_err_and}
use Rattle.addr2line_context.specs.ContextNames.{naming_in}
use Rattle.addr2line_context.specs.Histories.{ContextState}
use Rattle.linemap_replay.specs.Replays.{context_call, state_of, token_of}
use Rattle.linemap_replay.specs.CallEffects.{LeavesPart}
use Rattle.linemap_replay.proofs.KeptReads.{keeps_same}
use Rattle.linemap_replay.proofs.PartAnswers.{whole_is_part}
use Rattle.linemap_replay.proofs.AnsweredCalls.{none_before, one_more_call, all_answers, last_state, leaves_some, keeps_call, runs_once}
use Rattle.linemap_replay.proofs.history.replay.Goals as goal

pub loop-call-init : goal.loop-call-init
loop-call-init g c = (
  none_before (map (option_map (λ f. f.value.file)) c.args.answers.now) c.args.context.now.value c.args.calls.now
      c.new-found.result.items (map token_of c.new-loads.result.items) c.new-found.ensures.items
      (ap (map token_of) c.new-loads.ensures.items),
  keeps_same _ _ c.args.context.now.units,
)

pub loop-call-preserved : goal.loop-call-preserved
loop-call-preserved g c = (
  one_more_call (map (option_map (λ f. f.value.file)) c.args.answers.now) c.args.context.now.value c.args.calls.now
      c.loop-call.context.value c.answer_call.new.context.value (map token_of c.loop-call.loads.items)
      (map token_of c.answer_call.new.loads.items) c.loop-call.found.items c.loop-call.call-index c.call-item.result _
      c.loop-call-test.true c.call-item.is c.loop-call.invariant.0 c.in_ok-answer_call.ensures.answer
      c.in_ok-answer_call.ensures.left c.answer_call.ensures.plain c.push.new.self.items c.in_ok-push.ensures.items,
  keeps_call (map (option_map (λ f. f.value.file)) c.args.answers.now) c.args.context.now.value c.args.calls.now
      c.loop-call.context.value (map token_of c.loop-call.loads.items) c.loop-call.found.items c.loop-call.call-index
      c.call-item.result c.loop-call-test.true c.call-item.is c.loop-call.invariant.0 _ _ _ c.loop-call.invariant.1
      c.answer_call.ensures.kept,
)

pub returns-clause-answers : goal.returns-clause-answers
returns-clause-answers g c =
    all_answers (map (option_map (λ f. f.value.file)) c.args.answers.now) c.args.context.now.value c.args.calls.now
    c.loop-call.context.value (map token_of c.loop-call.loads.items) c.loop-call.found.items c.loop-call.call-index
    c.loop-call-test.false c.loop-call.invariant.0

pub returns-clause-left : goal.returns-clause-left
returns-clause-left g c =
    last_state (map (option_map (λ f. f.value.file)) c.args.answers.now) c.args.context.now.value c.args.calls.now
    c.loop-call.context.value (map token_of c.loop-call.loads.items) c.loop-call.found.items c.loop-call.call-index
    c.loop-call-test.false c.loop-call.invariant.0

pub returns-in_err-answer_call-clause-kept : goal.returns-in_err-answer_call-clause-kept
returns-in_err-answer_call-clause-kept g c =
    keeps_call (map (option_map (λ f. f.value.file)) c.args.answers.now) c.args.context.now.value c.args.calls.now
    c.loop-call.context.value (map token_of c.loop-call.loads.items) c.loop-call.found.items c.loop-call.call-index
    c.call-item.result c.loop-call-test.true c.call-item.is c.loop-call.invariant.0 _ _ _ c.loop-call.invariant.1
    c.answer_call.ensures.kept

pub returns-in_err-answer_call-clause-left : goal.returns-in_err-answer_call-clause-left
returns-in_err-answer_call-clause-left g c =
    let p = err_from_is_err_and c.from_residual.result c.from_residual.ensures.1 in
    rw p.1
    (leaves_some (map (option_map (λ f. f.value.file)) c.args.answers.now) c.args.context.now.value c.args.calls.now
    c.loop-call.context.value (map token_of c.loop-call.loads.items) c.loop-call.found.items c.loop-call.call-index
    c.call-item.result c.loop-call-test.true c.call-item.is c.loop-call.invariant.0 _
    c.in_err-answer_call.ensures.part)

pub returns-in_err-push-clause-kept : goal.returns-in_err-push-clause-kept
returns-in_err-push-clause-kept g c =
    keeps_call (map (option_map (λ f. f.value.file)) c.args.answers.now) c.args.context.now.value c.args.calls.now
    c.loop-call.context.value (map token_of c.loop-call.loads.items) c.loop-call.found.items c.loop-call.call-index
    c.call-item.result c.loop-call-test.true c.call-item.is c.loop-call.invariant.0 _ _ _ c.loop-call.invariant.1
    c.answer_call.ensures.kept

pub returns-in_err-push-clause-left : goal.returns-in_err-push-clause-left
returns-in_err-push-clause-left g c =
    let files = map (option_map (λ f. f.value.file)) c.args.answers.now in
    let v = c.loop-call.context.value in
    let s = state_of v (map token_of c.loop-call.loads.items) in
    let k = context_call files c.call-item.result in
    let p = err_from_is_err_and c.from_residual-in_err-push.result c.from_residual-in_err-push.ensures.1 in
    rw p.1
    (leaves_some files c.args.context.now.value c.args.calls.now v (map token_of c.loop-call.loads.items)
    c.loop-call.found.items c.loop-call.call-index c.call-item.result c.loop-call-test.true c.call-item.is
    c.loop-call.invariant.0 _
    (subst (λ (t : ContextState). LeavesPart v.plain (naming_in v.plain) k s t.answers)
    (sym c.in_ok-answer_call.ensures.left) (whole_is_part v.plain (naming_in v.plain) s k)))

pub returns-clause-once : goal.returns-clause-once
returns-clause-once g c = runs_once _ _ c.loop-call.invariant.1.counters

pub returns-in_err-answer_call-clause-once : goal.returns-in_err-answer_call-clause-once
returns-in_err-answer_call-clause-once g c =
    runs_once _ _
    (keeps_call (map (option_map (λ f. f.value.file)) c.args.answers.now) c.args.context.now.value c.args.calls.now
    c.loop-call.context.value (map token_of c.loop-call.loads.items) c.loop-call.found.items c.loop-call.call-index
    c.call-item.result c.loop-call-test.true c.call-item.is c.loop-call.invariant.0 _ _ _ c.loop-call.invariant.1
    c.answer_call.ensures.kept).counters

pub returns-in_err-push-clause-once : goal.returns-in_err-push-clause-once
returns-in_err-push-clause-once g c =
    runs_once _ _
    (keeps_call (map (option_map (λ f. f.value.file)) c.args.answers.now) c.args.context.now.value c.args.calls.now
    c.loop-call.context.value (map token_of c.loop-call.loads.items) c.loop-call.found.items c.loop-call.call-index
    c.call-item.result c.loop-call-test.true c.call-item.is c.loop-call.invariant.0 _ _ _ c.loop-call.invariant.1
    c.answer_call.ensures.kept).counters
