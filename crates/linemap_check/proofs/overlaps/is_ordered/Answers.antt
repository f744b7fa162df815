use Rattle.std.proofs.Common.{flat_map, not, refl, sym, ap, ◌∙◌}
use Rattle.linemap_check.proofs.DirectionLemmas.{any_overlap-in_direction, direction_drop, direction_drop_all}
use Rattle.linemap_check.proofs.OverlapLemmas.{ordered_end_append, any_overlap_ordered}
use Rattle.linemap_check.proofs.RangePassLemmas.{ascending_unordered}
use Rattle.linemap_check.specs.RangePasses.{in_direction}
use Rattle.linemap_check.proofs.overlaps.is_ordered.Goals as goal

pub returns-in-None-clause-ascending : goal.returns-in-None-clause-ascending
returns-in-None-clause-ascending g c = λ ascending.
    sym (ap not (sym (any_overlap-in_direction g.T.RangeOwner.ranges c.args.backwards c.args.items.now)
    ∙ ascending_unordered (flat_map g.T.RangeOwner.ranges (in_direction c.args.backwards c.args.items.now)) ascending
    (c.loop-i.invariant
    ∙ rw (
      direction_drop g.T.RangeOwner.ranges c.args.backwards c.args.items.now c.loop-i.i c.item_at.result.now
          c.loop-i-test.true c.item_at.ensures,
      ordered_end_append,
      ← c.in-None.ensures,
    ))))

pub loop-i-preserved : goal.loop-i-preserved
loop-i-preserved g c =
    c.loop-i.invariant
    ∙ rw (
      direction_drop g.T.RangeOwner.ranges c.args.backwards c.args.items.now c.loop-i.i c.item_at.result.now
          c.loop-i-test.true c.item_at.ensures,
      ordered_end_append,
      ← c.in-Some.ensures,
    )

pub returns-clause-apart : goal.returns-clause-apart
returns-clause-apart g c = λ _.
    sym (any_overlap-in_direction g.T.RangeOwner.ranges c.args.backwards c.args.items.now)
    ∙ any_overlap_ordered 0 (flat_map g.T.RangeOwner.ranges (in_direction c.args.backwards c.args.items.now))
    c.loop-i.end
    (c.loop-i.invariant
    ∙ rw (direction_drop_all g.T.RangeOwner.ranges c.args.backwards c.args.items.now c.loop-i.i c.loop-i-test.false))

pub returns-clause-ascending : goal.returns-clause-ascending
returns-clause-ascending g c = λ _. sym (ap not (returns-clause-apart g c refl))
