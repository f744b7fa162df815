use Rattle.std.proofs.Common.{subst, arith}
use Rattle.addr2line_index.specs.SharedRanges.{EndsRise}
use Rattle.addr2line_index.proofs.SharedRangeLemmas.{equal_ranges}
use Rattle.addr2line_index.proofs.unit_run.UnitRun.goes_on.Goals as goal

pub returns-then-self : goal.returns-then-self
returns-then-self c is =
    let same = equal_ranges c.args.self.now.ranges.now c.args.ranges.now c.if-ne.ensures in
    (omega arith, same, subst EndsRise same (c.requires.1 c.if-self.true))

pub returns-else-self : goal.returns-else-self
returns-else-self c is =
    let same = equal_ranges c.args.self.now.ranges.now c.args.ranges.now c.if-ne.ensures in
    (omega arith, same, c.ends_rise.ensures is)
