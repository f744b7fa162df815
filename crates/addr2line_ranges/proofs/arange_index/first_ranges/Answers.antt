use Rattle.std.proofs.Common.{◌∙◌, ◌++◌, ap, sym, append-nil}
use Rattle.addr2line_ranges.proofs.ArangeIndexLemmas.{stop_ranges}
use Rattle.addr2line_ranges.proofs.UnitRangeLemmas.{ok_ranges}
use Rattle.addr2line_ranges.proofs.arange_index.first_ranges.Goals as goal

pub returns-then-entry-offset : goal.returns-then-entry-offset
returns-then-entry-offset c =
    ap ok_ranges
    (sym c.loop-left.invariant.same
    ∙ ap (λ l. c.loop-left.ranges.items ++ l)
    (stop_ranges c.args.offset c.loop-left.left.now _ c.in-len1-up.len_at_least c.loop-left.invariant.ascends
    c.if-entry-offset.true)
    ∙ append-nil c.loop-left.ranges.items)
