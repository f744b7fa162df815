use Rattle.std.proofs.Common.{◌+◌, sym, ◌∙◌}
use Rattle.addr2line_index.proofs.BoundedRangeLemmas.{if_found, none_left, left_overlaps, left_overlaps_not, next_overlap}
use Rattle.addr2line_index.proofs.next_range.pair_between.Goals as goal

pub returns-then-overlaps : goal.returns-then-overlaps
returns-then-overlaps c =
    let a = c.args in
    let is = sym c.overlaps.ensures ∙ c.if-overlaps.true in
    if_found c.pair_from.result
    (λ over. left_overlaps a.low (a.last + 1) a.from a.entry.now is ∙ none_left a.from a.entry.now c.requires over)
    (λ f next. next_overlap a.low (a.last + 1) a.from a.entry.now f is next) c.pair_from.ensures

pub returns-else-overlaps : goal.returns-else-overlaps
returns-else-overlaps c =
    let a = c.args in
    left_overlaps_not a.low (a.last + 1) a.from a.entry.now (sym c.overlaps.ensures ∙ c.if-overlaps.false)
