use Rattle.linemap_lookup.proofs.FrameSteps.{on_ok}
use Rattle.linemap_lookup.proofs.AnswerSteps.{frames_found, frames_refused}
use Rattle.linemap_lookup.proofs.lookups.answer_frames.Goals as goal

pub returns-in-Ok : goal.returns-in-Ok
returns-in-Ok g c =
    on_ok c.push_found.result (frames_found c.in-Ok.is c.find_frames.follows.holds-at-none.found) c.push_found.ensures

pub returns-in-Err : goal.returns-in-Err
returns-in-Err g c =
    on_ok c.push_refused.result (frames_refused c.in-Err.is c.find_frames.follows.holds-at-none.found)
    c.push_refused.ensures
