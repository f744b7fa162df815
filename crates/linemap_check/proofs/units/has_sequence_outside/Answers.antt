use Rattle.std.proofs.Common.{rules}
use Rattle.linemap_check.proofs.RuleLemmas.{sequence_spans}
use Rattle.linemap_check.proofs.units.has_sequence_outside.Goals as goal

pub returns : goal.returns
returns c = rw (sequence_spans c.args.unit.now.sequences.items) (search rules)
