use Rattle.std.proofs.Common.{subst, sym, ap, ◌∙◌, Ok}
use Rattle.addr2line_lookups.specs.BorrowedFrames.{frames_left}
use Rattle.addr2line_lookups.specs.FirstAnswers.{output}
use Rattle.addr2line_lookups.specs.FramePlaces.{LendsFrames}
use Rattle.addr2line_context.specs.FrameLoads.{DecidesFrames}
use Rattle.addr2line_context.specs.KeptContexts.{ResolvedContext}
use Rattle.addr2line_context.proofs.LookupResults.{frames_lent}
use Rattle.addr2line_context.proofs.frame_loads.lend_frames.Goals as goal

pub returns-in-Place : goal.returns-in-Place
returns-in-Place g c = λ meaning decides.
    let us = c.args.context.now.units in
    let place = c.in-Place.place in
    let lent = frames_left c.frames_at_place.result in
    frames_lent us meaning place lent
    (subst (λ (x : ResolvedContext). LendsFrames x.units place lent) c.context.view_is c.frames_at_place.ensures)
    (subst (DecidesFrames us meaning) c.in-Place.is decides)

pub returns-in-NoFrames : goal.returns-in-NoFrames
returns-in-NoFrames g c = λ meaning decides.
    subst (DecidesFrames c.args.context.now.units meaning) c.in-NoFrames.is decides
    ∙ ap (λ fs. output (Ok fs)) (sym c.frame_without_function.ensures)

pub returns-in-Refusal : goal.returns-in-Refusal
returns-in-Refusal g c = λ meaning decides other.
    subst (DecidesFrames c.args.context.now.units meaning) c.in-Refusal.is decides
