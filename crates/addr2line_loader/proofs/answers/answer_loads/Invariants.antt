-- Some loads are answered, in order; and there are fewer loads left. What was kept is kept still. Where the frames are
-- found without an answer, nothing was done yet.
use Rattle.std.proofs.Common.{◌≡◌, length}
use Rattle.addr2line_context.specs.FrameLoads.{IsDone}
use Rattle.addr2line_context.specs.SettledLookups.{frames_in, loads_in}
use Rattle.addr2line_loader.specs.ResolvedFiles.{ReadsForFrames}
use Rattle.addr2line_loader.proofs.AnsweredLoads.{AnsweredTo}
use Rattle.addr2line_loader.proofs.answers.answer_loads.Given as goal

abbrev pub decreases-loop-decided : goal.decreases-loop-decided
decreases-loop-decided g l = length (loads_in l.context.value l.probe)

abbrev pub invariant-loop-decided : goal.invariant-loop-decided
invariant-loop-decided g l =
    (l.context.value.plain ≡ l.fn.context.value.plain)
    × AnsweredTo g.S.SplitSource.answers l.probe l.fn.context.value.plain
    (record { answers = l.fn.context.value.answers; source = l.fn.source })
    (record { answers = l.context.value.answers; source = l.source })
    × ReadsForFrames l.context.value l.probe l.fn.context.units l.context.units
    × (IsDone (frames_in l.fn.context.value l.probe) → l.context ≡ l.fn.context)
