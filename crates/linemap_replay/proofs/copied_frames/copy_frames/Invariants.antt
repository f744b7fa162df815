-- The copies so far, and those of the frames that remain, are all.
use Rattle.std.proofs.Common.{◌≡◌, ◌++◌, length, map}
use Rattle.addr2line_context.specs.BorrowedFrames.{frames_left}
use Rattle.linemap_replay.specs.OwnedAnswers.{frame_of, copied_frame}
use Rattle.linemap_replay.proofs.copied_frames.copy_frames.Given as goal

abbrev pub invariant-loop-copies : goal.invariant-loop-copies
invariant-loop-copies g l =
    map frame_of l.copies.items ++ map copied_frame (frames_left l.frames)
    ≡ map copied_frame (frames_left l.fn.frames)

abbrev pub decreases-loop-copies : goal.decreases-loop-copies
decreases-loop-copies g l = length (frames_left l.frames)
