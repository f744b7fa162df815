use Rattle.linemap_emit_parts.proofs.EmittedRangesRead.{ranges_again as list_again}
use Rattle.linemap_emit_parts.proofs.range_laws.ranges_again.Goals as goal

pub returns : goal.returns
returns c = list_again
