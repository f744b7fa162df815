use Rattle.std.proofs.Common.{◌∙◌, sym}
use Rattle.linemap_check.proofs.OverlapLemmas.{any_overlap_step}
use Rattle.linemap_check.proofs.overlaps.any_pair_overlaps.Goals as goal

pub returns-then-any_overlaps_later : goal.returns-then-any_overlaps_later
returns-then-any_overlaps_later g c =
    let step =
    any_overlap_step g.T.RangeOwner.ranges c.args.items.now c.loop-i.i c.index-items-i.result
    c.any_overlaps_later.result
    c.loop-i-test.true c.index-items-i.is c.any_overlaps_later.ensures in
    sym (c.loop-i.invariant ∙ rw c.if-any_overlaps_later.true at step)

pub loop-i-preserved : goal.loop-i-preserved
loop-i-preserved g c =
    let step =
    any_overlap_step g.T.RangeOwner.ranges c.args.items.now c.loop-i.i c.index-items-i.result
    c.any_overlaps_later.result
    c.loop-i-test.true c.index-items-i.is c.any_overlaps_later.ensures in
    c.loop-i.invariant ∙ rw c.if-any_overlaps_later.false at step
