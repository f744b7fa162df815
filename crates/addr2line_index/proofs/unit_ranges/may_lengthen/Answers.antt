use Rattle.std.proofs.Common.{sym, subst}
use Rattle.addr2line_index.specs.SharedRanges.{AreShareable, LastGoesOn}
use Rattle.addr2line_index.proofs.SharedRangeLemmas.{last_goes_on, last_shareable}
use Rattle.addr2line_index.proofs.unit_ranges.may_lengthen.Goals as goal

pub goes_on-requires : goal.goes_on-requires
goes_on-requires c =
    last_shareable c.in-Some.field-0-1.now c.in-Some.last.now
    (subst AreShareable c.in-Some.ensures.cases.0 c.requires)

pub returns-in-Some : goal.returns-in-Some
returns-in-Some c is =
    let a = c.args in
    subst (λ l. LastGoesOn l a.unit a.ranges.now) (sym c.in-Some.ensures.cases.0)
    (last_goes_on c.in-Some.field-0-1.now c.in-Some.last.now a.unit a.ranges.now (c.goes_on.ensures is))
