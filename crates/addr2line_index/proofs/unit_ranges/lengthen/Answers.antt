use Rattle.addr2line_index.proofs.SharedRangeLemmas.{set_last}
use Rattle.addr2line_index.proofs.unit_ranges.lengthen.Goals as goal

pub returns-then-count-gt0 : goal.returns-then-count-gt0
returns-then-count-gt0 c = set_last c.args.runs.now c.args.unit _ c.if-count-gt0.true
