use Rattle.addr2line_context.proofs.ResumedWithoutFiles.{unit_resumed}
use Rattle.addr2line_context.proofs.skip_laws.skips_to_unit.Goals as goal

pub returns : goal.returns
returns _ c a enough = unit_resumed c a enough
