use Rattle.std.proofs.Common.{ℕ, ◌+◌, length, Option, None, Some, List, option_map}
use Rattle.std.specs.String.{string_bytes}
use Rattle.addr2line_context.specs.BorrowedFrames.{frames_left}
use Rattle.addr2line_context.specs.Frames.{Frame}
use Rattle.linemap_lookup.proofs.FrameSteps.{IsAt}
use Rattle.linemap_lookup.proofs.frames.Frames.push_outer.Given as goal

-- how many frames are left, if there is one more
abbrev left_after : Option Frame → List Frame → ℕ
left_after None left = 0
left_after (Some f) left = length left + 1

-- the frames before the current one are printed
abbrev pub invariant-frame : goal.invariant-frame
invariant-frame g l =
    IsAt l.options (option_map (λ s. s.now) l.symbol) l.fn.frame (frames_left l.fn.self.left)
    (string_bytes l.fn.text) l.current (frames_left l.self.left) l.self.is_refused (string_bytes l.text)

abbrev pub decreases-frame : goal.decreases-frame
decreases-frame g l = left_after l.current (frames_left l.self.left)
