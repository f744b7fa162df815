-- What an open file keeps of the frames that a lookup finds.
use Rattle.std.proofs.Common.{◌≡◌, ℕ, List, map, Result, Ok, Err, IfOk, IfErr}
use Rattle.addr2line_context.specs.Error.{Error}
use Rattle.addr2line_context.specs.Error.TheVariants.{Memory}
use Rattle.addr2line_context.specs.Frames.{Frame}
use Rattle.addr2line_c.specs.Answers.{ShowsOrNoMemory}
use Rattle.addr2line_c.specs.ShownFrames.{ShownFrame, shown_frame}

-- copies of frames, or out of memory
pub shows_copies : (names : ℕ) (frames : List Frame) (copies : List ShownFrame) (done : Result (Unit {0}) Error)
    → IfOk done (λ d. copies ≡ map (shown_frame names) frames) → IfErr done (λ e. e ≡ Memory)
    → ShowsOrNoMemory names (Ok frames) done copies
shows_copies names frames copies (Ok d) are memory = are
shows_copies names frames copies (Err e) are memory = memory
