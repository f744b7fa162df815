use Rattle.addr2line_context.specs.ContextCosts.{frame_search}
use Rattle.addr2line_context.proofs.FrameLoads.{first_load_of_frames}
use Rattle.linemap_replay.proofs.KeptReads.{searched}
use Rattle.linemap_replay.proofs.address_lookup.FrameLookupAddressLookup.settle.Goals as goal

pub returns-clause-first : goal.returns-clause-first
returns-clause-first g c = first_load_of_frames c.args.context.now.value c.args.probe

pub returns-clause-kept : goal.returns-clause-kept
returns-clause-kept g c =
    searched frame_search _ c.args.probe c.args.context.now c.settle_frames.new.context c.settle_frames.ensures.after
