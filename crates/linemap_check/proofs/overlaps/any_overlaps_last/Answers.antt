use Rattle.std.proofs.Common.{flat_map, refl, sym, ◌∙◌}
use Rattle.linemap_meaning.specs.TableViews.{range_part}
use Rattle.linemap_check.proofs.DirectionLemmas.{any_overlap-in_direction, direction_drop, direction_drop_all}
use Rattle.linemap_check.proofs.RangePassLemmas.{last_apart_append, overlap_from_start, apart_from_start}
use Rattle.linemap_check.specs.RangePasses.{in_direction}
use Rattle.linemap_check.proofs.overlaps.any_overlaps_last.Goals as goal

pub returns-in-None-clause-found : goal.returns-in-None-clause-found
returns-in-None-clause-found g c = λ _.
    sym (any_overlap-in_direction g.T.RangeOwner.ranges c.args.backwards c.args.items.now)
    ∙ overlap_from_start (flat_map g.T.RangeOwner.ranges (in_direction c.args.backwards c.args.items.now))
    (c.loop-i.invariant
    ∙ rw (
      direction_drop g.T.RangeOwner.ranges c.args.backwards c.args.items.now c.loop-i.i c.item_at.result.now
          c.loop-i-test.true c.item_at.ensures,
      last_apart_append,
      ← c.in-None.ensures,
    ))

pub returns-in-None-clause-ascending : goal.returns-in-None-clause-ascending
returns-in-None-clause-ascending g c = λ _.
    sym (returns-in-None-clause-found g c refl)

pub loop-i-preserved : goal.loop-i-preserved
loop-i-preserved g c =
    c.loop-i.invariant
    ∙ rw (
      direction_drop g.T.RangeOwner.ranges c.args.backwards c.args.items.now c.loop-i.i c.item_at.result.now
          c.loop-i-test.true c.item_at.ensures,
      last_apart_append,
      ← c.in-Some.ensures,
    )

pub returns-clause-ascending : goal.returns-clause-ascending
returns-clause-ascending g c = λ ascending.
    sym (sym (any_overlap-in_direction g.T.RangeOwner.ranges c.args.backwards c.args.items.now)
    ∙ apart_from_start (flat_map g.T.RangeOwner.ranges (in_direction c.args.backwards c.args.items.now))
    (range_part c.loop-i.last) ascending
    (c.loop-i.invariant
    ∙ rw (direction_drop_all g.T.RangeOwner.ranges c.args.backwards c.args.items.now c.loop-i.i c.loop-i-test.false)))
