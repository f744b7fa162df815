-- The copies so far, and those of the frames that remain, are all.
use Rattle.std.proofs.Common.{◌≡◌, ◌++◌, length, map}
use Rattle.addr2line_context.specs.BorrowedFrames.{frames_left}
use Rattle.addr2line_c.specs.Copies.{frame_of}
use Rattle.addr2line_c.specs.ShownFrames.{shown_frame}
use Rattle.addr2line_c.proofs.open_file.push_frames.Given as goal

abbrev pub invariant-frame : goal.invariant-frame
invariant-frame g l =
    map frame_of l.copies.items ++ map (shown_frame l.fn.names) (frames_left l.frames)
    ≡ map (shown_frame l.fn.names) (frames_left l.fn.frames)

abbrev pub decreases-frame : goal.decreases-frame
decreases-frame g l = length (frames_left l.frames)
