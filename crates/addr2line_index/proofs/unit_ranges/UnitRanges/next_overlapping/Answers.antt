use Rattle.std.proofs.Common.{◌≡◌, ◌∙◌, ap, drop, arith}
use Rattle.addr2line_index.specs.NumberedRanges.{overlapping_ranges}
use Rattle.addr2line_index.proofs.BoundedRangeLemmas.{none_below}
use Rattle.addr2line_index.proofs.unit_ranges.UnitRanges.next_overlapping.Goals as goal

pub returns-in_err-last : goal.returns-in_err-last
returns-in_err-last c =
    let rs = drop c.args.from.index c.args.self.now in
    let zero : c.args.high ≡ 0 = omega (arith, c.in_err-last.ensures) in
    rw c.from_residual.ensures
    (ap (λ n. overlapping_ranges c.args.low n rs) zero ∙ none_below c.args.low rs)
