use Rattle.addr2line_context.specs.ContextCosts.{frame_search}
use Rattle.addr2line_context.proofs.FrameLoads.{frames_decided, settled_with_memory}
use Rattle.addr2line_context.proofs.ResumedLookups.{with_memory}
use Rattle.addr2line_context.proofs.frame_loads.settle_frames.Goals as goal

pub returns-clause-settles : goal.returns-clause-settles
returns-clause-settles g c = frames_decided _ _ _ _ c.settle_frames-settled.ensures.found c.decided_frames.ensures

pub returns-clause-after : goal.returns-clause-after
returns-clause-after g c =
    with_memory frame_search _ _ c.args.probe c.args.context.now _ (settled_with_memory _ _ c.decided_frames.ensures)
    c.settle_frames-settled.ensures.after
