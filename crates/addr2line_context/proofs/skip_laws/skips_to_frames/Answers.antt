use Rattle.addr2line_context.proofs.ResumedWithoutFiles.{frames_resumed}
use Rattle.addr2line_context.proofs.skip_laws.skips_to_frames.Goals as goal

pub returns : goal.returns
returns _ c a enough = frames_resumed c a enough
