use Rattle.std.proofs.Common.{refl, ap, ◌∙◌, subst, option_map, arith}
use Rattle.addr2line_lookups.specs.BorrowedFrames.{frames_left}
use Rattle.addr2line_context.specs.AnsweredContexts.{AnsweredContext}
use Rattle.addr2line_context.specs.ContextCosts.{frame_search}
use Rattle.addr2line_context.specs.Suspended.{FollowsLookup}
use Rattle.addr2line_context.specs.SkippedLoads.{FindsFrames}
use Rattle.addr2line_context.specs.SettledLookups.{frames_in, after_answer}
use Rattle.addr2line_context.proofs.SkippedLoads.{frames_still_found, finds_err, finds_after}
use Rattle.addr2line_context.proofs.ResumedLookups.{after_again, after_error, waits_again, has_loads, fewer_left}
use Rattle.addr2line_context.proofs.find_frames.FindFramesLookupContinuation.resume.Goals as goal

pub returns-in-Ok : goal.returns-in-Ok
returns-in-Ok g c =
    let file = option_map (λ f. f.value.file) c.args.input in
    let old = c.args.self.context.now in
    let mid = c.answer_first.new.self in
    let a = c.args.self.probe in
    let result = c.find_frames.result in
    let ok = c.in-Ok.ensures.ok in
    let free = c.in-Ok.ensures.cost in
    let waits = c.find_frames.ensures.waits in (
      (
        refl,
        c.find_frames.follows.holds,
        after_again frame_search old mid a file ok free c.in-Ok.ensures.lines c.in-Ok.ensures.functions result _
            c.find_frames.follows.holds-at-none,
      ),
      record {
        fewer =
            fewer_left frame_search old mid a (λ w. w.context.now) (λ w. w.probe) c.in-Ok.ensures.fewer result waits;
        waits = has_loads frame_search old mid a (λ w. w.context.now) (λ w. w.probe) result waits;
        found =
            subst (λ (x : AnsweredContext). FollowsLookup frames_left result (frames_in x a)) ok
            c.find_frames.ensures.found;
        again =
            waits_again frame_search old mid a file ok free c.in-Ok.ensures.lines c.in-Ok.ensures.functions
            (λ w. w.context.now) (λ w. w.probe) result waits;
        skips =
            λ none found h.
            finds_after frames_left frames_in frames_still_found old.value a found
            (subst (λ d. FindsFrames frames_left d a found)
            (ok ∙ ap (λ i. after_answer old.value a (option_map (λ f. f.value.file) i)) none)
            (c.find_frames.ensures.skips found h));
        after = tt;
      },
    )

pub returns-in-Err : goal.returns-in-Err
returns-in-Err g c = (
  (
    refl,
    λ w. tt,
    after_error frame_search _ _ _ _ _ c.in-Err.ensures.refusal c.in-Err.ensures.left c.in-Err.ensures.cost
        c.in-Err.ensures.lines c.in-Err.ensures.functions,
  ),
  record {
    fewer = omega arith;
    waits = tt;
    found = λ m. absurd (m c.in-Err.ensures.refusal);
    again = tt;
    skips =
        λ none.
        finds_err frames_left frames_in frames_still_found c.args.self.context.now.value c.args.self.probe _
        (λ m. absurd (m c.in-Err.ensures.refusal));
    after = tt;
  },
)
