use Rattle.std.proofs.Common.{◌+◌, ◌-◌, refl, arith}
use Rattle.addr2line_index.proofs.BoundedRangeLemmas.{next_pair}
use Rattle.addr2line_index.proofs.bounded_range.BoundedRange.pair_from.Goals as goal

pub returns : goal.returns
returns c =
    let e = c.args.self.now in
    let later = c.min-later.result in
    next_pair c.args.from e (e.shared.first + (c.saturating_sub-more.result - later)) (e.after - later) later
    c.requires c.if-self-from.false (omega arith) (omega arith) refl
