use Rattle.std.proofs.Common.{◌∙◌, sym}
use Rattle.addr2line_functions.proofs.RangeNumbers.{numbered_ranges-more, ranges_of_ok}
use Rattle.addr2line_functions.proofs.numbered_range.RangedItems.with.Goals as goal

pub invariant_of-result : goal.invariant_of-result
invariant_of-result g c =
    numbered_ranges-more g.T.HasRanges.depth g.T.HasRanges.ranges _ _ c.ranged.inside.item _ _ _ _ _ c.self.invariant
    (sym (ranges_of_ok _ _ c.in_ok-push_ranges.ensures)) c.ranged.invariant.0
    (c.as_slice.ensures.value ∙ c.ranged.invariant.1)
    (c.len.ensures ∙ c.self.inside.items.ok.0) c.in_ok-push.ensures.items
