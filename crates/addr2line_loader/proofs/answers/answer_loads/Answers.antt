use Rattle.std.proofs.Common.{◌≡◌, ◌∙◌, ap, subst, sym, Ok, Err, Result}
use Rattle.std.proofs.lemmas.Result.{err_from_is_err_and}
use Rattle.addr2line_context.specs.AnsweredContexts.{AnsweredContext}
use Rattle.addr2line_context.specs.Error.{Error}
use Rattle.addr2line_context.specs.FirstAnswers.{FirstAnswers}
use Rattle.addr2line_context.specs.UnitLookups.{IsPending}
use Rattle.addr2line_context.specs.FrameLoads.{DecidesUnlessWaiting, DecidesFrames}
use Rattle.addr2line_context.specs.SettledLookups.{frames_in}
use Rattle.addr2line_context.specs.declared.frame_loads.DecidedFrames.{DecidedFrames}
use Rattle.addr2line_context.proofs.FoundRows.{same_refusal, found_row}
use Rattle.addr2line_loader.specs.SourceAnswers.{LoadState}
use Rattle.addr2line_loader.proofs.AnsweredLoads.{answers_more, stops_at, stops_before, all_answered}
use Rattle.addr2line_loader.proofs.FrameReads.{reads_both, reads_in, reads_then_search, search_alone, waits_somewhere, asked_by_search}
use Rattle.addr2line_loader.proofs.answers.answer_loads.Goals as goal

abbrev refused : Error → Result DecidedFrames Error
refused e = Err e

-- ---- a load needs an answer

pub answer_next-requires : goal.answer_next-requires
answer_next-requires g c =
    subst (λ (x : AnsweredContext). IsPending (frames_in x c.args.probe)) (sym c.settle_frames.ensures.after.value)
    (subst (λ o. DecidesUnlessWaiting (DecidesFrames c.settle_frames.new.context.units)
    (frames_in c.loop-decided.context.value c.args.probe) (Ok o)) c.in-None.is c.in_ok-decided.ensures.settles)

pub loop-decided-preserved : goal.loop-decided-preserved
loop-decided-preserved g c =
    let asked : FirstAnswers → LoadState g.row.S.Denot = λ x. record { answers = x; source = c.loop-decided.source } in
    let same =
    ap (λ (x : AnsweredContext). x.plain) c.settle_frames.ensures.after.value ∙ c.loop-decided.invariant.0 in (
      c.answer_next.ensures.plain ∙ same,
      answers_more g.S.SplitSource.answers c.args.probe c.args.context.now.value.plain
          (record { answers = c.args.context.now.value.answers; source = c.args.source.now })
          c.settle_frames.new.context.value.plain same _ _
          (ap asked (ap (λ (x : AnsweredContext). x.answers) c.settle_frames.ensures.after.value))
          c.loop-decided.invariant.1 _
          c.in_ok-answer_next-in-None.ensures.loads,
      reads_both c.answer_next.new.context.value c.args.probe _ _ _
          (reads_in c.settle_frames.new.context.value c.args.probe c.answer_next.new.context.value
          c.answer_next.ensures.asks _ _
          (reads_then_search c.args.probe _ c.loop-decided.context c.settle_frames.new.context
          c.loop-decided.invariant.2 c.settle_frames.ensures.after))
          c.answer_next.ensures.units,
      λ done. absurd
          (waits_somewhere c.args.probe c.args.context.now c.loop-decided.context (c.loop-decided.invariant.3 done)
          done
          (subst (λ o. DecidesUnlessWaiting (DecidesFrames c.settle_frames.new.context.units)
          (frames_in c.loop-decided.context.value c.args.probe) (Ok o)) c.in-None.is
          c.in_ok-decided.ensures.settles)),
    )

-- ---- the frames are decided

pub returns-in-Some-clause-loads : goal.returns-in-Some-clause-loads
returns-in-Some-clause-loads g c =
    let asked : FirstAnswers → LoadState g.row.S.Denot = λ x. record { answers = x; source = c.loop-decided.source } in
    let us = c.settle_frames.new.context.units in
    let is = subst (λ o. DecidesUnlessWaiting (DecidesFrames us)
    (frames_in c.loop-decided.context.value c.args.probe) (Ok o)) c.in-Some.is
    c.in_ok-decided.ensures.settles in
    all_answered g.S.SplitSource.answers c.args.probe c.args.context.now.value.plain
    (record { answers = c.args.context.now.value.answers; source = c.args.source.now }) us c.in-Some.decided _ _
    (ap asked (ap (λ (x : AnsweredContext). x.answers) c.settle_frames.ensures.after.value)) c.loop-decided.invariant.1
    c.loop-decided.context.value.plain c.loop-decided.invariant.0 is.1

pub returns-in-Some-clause-units : goal.returns-in-Some-clause-units
returns-in-Some-clause-units g c =
    reads_then_search c.args.probe _ c.loop-decided.context c.settle_frames.new.context c.loop-decided.invariant.2
    c.settle_frames.ensures.after

pub returns-in-Some-clause-asked : goal.returns-in-Some-clause-asked
returns-in-Some-clause-asked g c = λ has.
    asked_by_search c.args.probe c.loop-decided.context c.settle_frames.new.context
    c.in_ok-decided.ensures.after (found_row _)

pub returns-in-Some-clause-alone : goal.returns-in-Some-clause-alone
returns-in-Some-clause-alone g c = λ done.
    search_alone _ _ c.args.probe c.args.context.now c.loop-decided.context c.settle_frames.new.context
    (c.loop-decided.invariant.3 done) (λ has. found_row _) c.in_ok-decided.ensures.after

-- ---- out of memory, in the search

pub returns-in_err-decided-clause-loads : goal.returns-in_err-decided-clause-loads
returns-in_err-decided-clause-loads g c =
    let p = err_from_is_err_and c.from_residual.result c.from_residual.ensures.1 in
    let asked : FirstAnswers → LoadState g.row.S.Denot = λ x. record { answers = x; source = c.loop-decided.source } in
    rw (p.1, p.2) (stops_before g.S.SplitSource.answers c.args.probe c.args.context.now.value.plain
    (record { answers = c.args.context.now.value.answers; source = c.args.source.now })
    c.settle_frames.new.context.units _ _
    (ap asked (ap (λ (x : AnsweredContext). x.answers) c.settle_frames.ensures.after.value))
    c.loop-decided.invariant.1 _
    c.in_err-decided.ensures.settles)

pub returns-in_err-decided-clause-units : goal.returns-in_err-decided-clause-units
returns-in_err-decided-clause-units g c =
    reads_then_search c.args.probe _ c.loop-decided.context c.settle_frames.new.context c.loop-decided.invariant.2
    c.settle_frames.ensures.after

pub returns-in_err-decided-clause-asked : goal.returns-in_err-decided-clause-asked
returns-in_err-decided-clause-asked g c =
    let p = err_from_is_err_and c.from_residual.result c.from_residual.ensures.1 in
    rw (p.1, p.2) (λ has. absurd (has (ap refused c.in_err-decided.ensures.settles)))

pub returns-in_err-decided-clause-alone : goal.returns-in_err-decided-clause-alone
returns-in_err-decided-clause-alone g c = λ done.
    let p = err_from_is_err_and c.from_residual.result c.from_residual.ensures.1 in
    search_alone _ _ c.args.probe c.args.context.now c.loop-decided.context c.settle_frames.new.context
    (c.loop-decided.invariant.3 done) (rw (p.1, p.2) (same_refusal _)) c.in_err-decided.ensures.after

-- ---- out of memory, in an answer

pub returns-in_err-answer_next-in-None-clause-loads : goal.returns-in_err-answer_next-in-None-clause-loads
returns-in_err-answer_next-in-None-clause-loads g c =
    let p =
    err_from_is_err_and c.from_residual-in_err-answer_next-in-None.result
    c.from_residual-in_err-answer_next-in-None.ensures.1 in
    let asked : FirstAnswers → LoadState g.row.S.Denot = λ x. record { answers = x; source = c.loop-decided.source } in
    rw (p.1, p.2) (stops_at g.S.SplitSource.answers c.args.probe c.args.context.now.value.plain
    (record { answers = c.args.context.now.value.answers; source = c.args.source.now })
    c.settle_frames.new.context.value.plain
    (ap (λ (x : AnsweredContext). x.plain) c.settle_frames.ensures.after.value ∙ c.loop-decided.invariant.0) _ _
    (ap asked (ap (λ (x : AnsweredContext). x.answers) c.settle_frames.ensures.after.value))
    c.loop-decided.invariant.1 _ c.answer_next.new.context.units _
    c.in_err-answer_next-in-None.ensures.loads)

pub returns-in_err-answer_next-in-None-clause-units : goal.returns-in_err-answer_next-in-None-clause-units
returns-in_err-answer_next-in-None-clause-units g c =
    reads_both c.answer_next.new.context.value c.args.probe _ _ _
    (reads_in c.settle_frames.new.context.value c.args.probe c.answer_next.new.context.value c.answer_next.ensures.asks
    _ _
    (reads_then_search c.args.probe _ c.loop-decided.context c.settle_frames.new.context c.loop-decided.invariant.2
    c.settle_frames.ensures.after))
    c.answer_next.ensures.units

pub returns-in_err-answer_next-in-None-clause-alone : goal.returns-in_err-answer_next-in-None-clause-alone
returns-in_err-answer_next-in-None-clause-alone g c = λ done.
    absurd
    (waits_somewhere c.args.probe c.args.context.now c.loop-decided.context (c.loop-decided.invariant.3 done) done
    (subst (λ o. DecidesUnlessWaiting (DecidesFrames c.settle_frames.new.context.units)
    (frames_in c.loop-decided.context.value c.args.probe) (Ok o)) c.in-None.is c.in_ok-decided.ensures.settles))
