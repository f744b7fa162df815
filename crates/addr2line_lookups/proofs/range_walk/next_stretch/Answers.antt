use Rattle.std.proofs.Common.{◌≡◌, ◌∙◌, ◌+◌, List, Option, Ok, Err, ap, map, refl, subst, sym, arith}
use Rattle.std.proofs.lemmas.Result.{err_from_is_err_and}
use Rattle.addr2line_unit.specs.Error.TheVariants.{Memory}
use Rattle.addr2line_unit.specs.Contexts.{ContextUnit}
use Rattle.addr2line_unit.specs.ContextUnits.{unit_places}
use Rattle.addr2line_unit.specs.ResolvedUnits.{plain_unit}
use Rattle.addr2line_lookups.specs.RangeWalks.{BeginsRange, NextOfRows, walk_left, walk_looks, found_looks, StaysOnItsWay}
use Rattle.addr2line_lookups.specs.declared.range_walk.RangeRows.{RangeRows}
use Rattle.addr2line_lookups.specs.declared.range_walk.UnitStretch.{UnitStretch}
use Rattle.addr2line_lookups.proofs.AskedStretches.{AsksAfter, walk_begins, rows_found, rows_passed, rows_reads, rows_kept, walk_ends, next_begins, next_refused, next_reads, next_kept, refused_stretch, stretch_not_refused, rows_not_refused}
use Rattle.addr2line_lookups.proofs.KeptLines.{same_plain}
use Rattle.addr2line_lookups.proofs.RangeSteps.{first_left, next_range, refused_range, no_range, in_no_range, leaves_range, ok_stretch}
use Rattle.addr2line_lookups.proofs.RangeUnits.{way_of_rows, way_of_range}
use Rattle.addr2line_lookups.proofs.UnitProbes.{refused_so}
use Rattle.addr2line_lookups.proofs.WalkLooks.{walks_none, walks_both, walks_on, refused_walks, range_walks, found_few}
use Rattle.addr2line_lookups.proofs.range_walk.next_stretch.Goals as goal

pub range-init : goal.range-init
range-init g c =
    let us = c.args.units.now.items in
    let left = walk_left (map unit_places (map plain_unit us)) c.args.ranges.now c.args.walk.now in
    record {
      change =
          walks_none (walk_looks (map plain_unit us) c.args.ranges.now c.args.walk.now)
          (walk_looks (map plain_unit us) c.args.ranges.now c.args.walk.now) us (omega arith);
      left = refl {a = left};
      asks = walk_begins us c.args.ranges.now c.args.walk.now;
      way = λ n come. come;
    }

pub returns-in-Some-clause-stretch : goal.returns-in-Some-clause-stretch
returns-in-Some-clause-stretch g c =
    let units = map plain_unit c.args.units.now.items in
    let found =
    first_left units c.args.ranges.now c.in-Some.stretch c.range.walk c.next_of_rows.new.walk
    (subst (λ r. NextOfRows units r c.range.walk c.next_of_rows.new.walk) (ap ok_stretch c.in-Some.is)
    (subst (λ (xs : List ContextUnit). NextOfRows xs (Ok c.in_ok-stretch.field-0) c.range.walk c.next_of_rows.new.walk)
    (same_plain c.range.units.items c.args.units.now.items c.range.invariant.change.values)
    c.in_ok-stretch.ensures.stretch)) in (found.0, found.1, sym c.range.invariant.left ∙ found.2)

pub returns-in_default-next_overlapping-clause-stretch : goal.returns-in_default-next_overlapping-clause-stretch
returns-in_default-next_overlapping-clause-stretch g c =
    let units = map plain_unit c.args.units.now.items in
    let us = map unit_places units in
    let ranges = c.args.ranges.now in
    let w = c.next_of_rows.new.walk in
    let stays =
    leaves_range units ranges c.range.walk w c.in_ok-stretch.field-0 c.in_default.is
    (subst (λ (xs : List ContextUnit). NextOfRows xs (Ok c.in_ok-stretch.field-0) c.range.walk w)
    (same_plain c.range.units.items c.args.units.now.items c.range.invariant.change.values)
    c.in_ok-stretch.ensures.stretch) in
    let same : walk_left us ranges w ≡ walk_left us ranges c.args.walk.now =
    stays.0 ∙ c.range.invariant.left in
    (sym same ∙ no_range us ranges w stays.1 c.in_default-next_overlapping.ensures, same)

pub returns-in_err-rows-clause-stretch : goal.returns-in_err-rows-clause-stretch
returns-in_err-rows-clause-stretch g c =
    let p = err_from_is_err_and c.from_residual-in_err-rows.result c.from_residual-in_err-rows.ensures.1 in
    let units = map plain_unit c.args.units.now.items in
    let us = map unit_places units in
    let ranges = c.args.ranges.now in
    let w = c.next_of_rows.new.walk in
    let r = c.in-Some-next_overlapping.range in
    let e = c.in_err-rows.field-0.0 in
    let stays =
    leaves_range units ranges c.range.walk w c.in_ok-stretch.field-0 c.in_default.is
    (subst (λ (xs : List ContextUnit). NextOfRows xs (Ok c.in_ok-stretch.field-0) c.range.walk w)
    (same_plain c.range.units.items c.args.units.now.items c.range.invariant.change.values)
    c.in_ok-stretch.ensures.stretch) in
    let same : walk_left us ranges w ≡ walk_left us ranges c.args.walk.now =
    stays.0 ∙ c.range.invariant.left in
    let refuses : BeginsRange us w.low w.high r (Err e) =
    subst (λ (xs : List ContextUnit). BeginsRange (map unit_places xs) w.low w.high r (Err e))
    (same_plain c.next_of_rows.new.units.items c.args.units.now.items
    (c.in_ok-stretch.ensures.change.values ∙ c.range.invariant.change.values)) (c.in_err-rows.ensures.rows w.high) in
    rw (p.1, p.2) (
      λ other.
          sym same
          ∙ refused_range us ranges w stays.1 r c.in-Some-next_overlapping.next e c.in-Some-next_overlapping.ensures
          refuses other,
      same,
    )

pub range-preserved : goal.range-preserved
range-preserved g c =
    let old = c.args.units.now.items in
    let units = map plain_unit old in
    let us = map unit_places units in
    let ranges = c.args.ranges.now in
    let w = c.next_of_rows.new.walk in
    let r = c.in-Some-next_overlapping.range in
    let next = c.in-Some-next_overlapping.next in
    let now = c.next_of_rows.new.units.items in
    let rows = c.in_ok-rows.rows in
    let stays =
    leaves_range units ranges c.range.walk w c.in_ok-stretch.field-0 c.in_default.is
    (subst (λ (xs : List ContextUnit). NextOfRows xs (Ok c.in_ok-stretch.field-0) c.range.walk w)
    (same_plain c.range.units.items old c.range.invariant.change.values) c.in_ok-stretch.ensures.stretch) in
    let begins : BeginsRange us w.low w.high r (Ok rows) =
    subst (λ (xs : List ContextUnit). BeginsRange (map unit_places xs) w.low w.high r (Ok rows))
    (same_plain now old (c.in_ok-stretch.ensures.change.values ∙ c.range.invariant.change.values))
    (c.in_ok-rows.ensures.rows w.high) in
    let on_way : StaysOnItsWay ranges c.range.walk w =
    way_of_rows (map plain_unit c.range.units.items) ranges (Ok c.in_ok-stretch.field-0) c.range.walk w
    c.in_ok-stretch.ensures.stretch c.in_ok-stretch.ensures.unit in
    let passed : AsksAfter old ranges c.args.walk.now w now =
    rows_passed old ranges c.args.walk.now c.range.walk c.range.units.items c.range.invariant.asks now
    c.in_ok-stretch.ensures.reads c.in_ok-stretch.ensures.change.cost.more
    (c.in_ok-stretch.ensures.asked (stretch_not_refused _)) c.range.invariant.change.values w c.in_ok-stretch.field-0
    c.in_ok-stretch.ensures.stretch c.in_default.is in
    let no_row : found_looks c.in_ok-stretch.field-0 ≡ 0 =
    ap (λ (o : Option UnitStretch). found_looks o) c.in_default.is in
    rw c.enter.ensures (record {
      change =
          walks_both (walk_looks units ranges c.args.walk.now) (walk_looks units ranges w)
          (walk_looks units ranges (record { low = w.low; high = w.high; rows = rows; next = next })) old now
          c.first_rows.new.units.items
          (walks_on ranges old c.range.units.items now c.range.invariant.change.values c.range.walk w c.args.walk.now
          (Ok c.in_ok-stretch.field-0) (walk_looks units ranges c.args.walk.now) (omega (arith, no_row))
          c.range.invariant.change c.in_ok-stretch.ensures.stretch c.in_ok-stretch.ensures.change)
          (range_walks ranges old now c.first_rows.new.units.items
          (c.in_ok-stretch.ensures.change.values ∙ c.range.invariant.change.values) w r next rows
          c.in-Some-next_overlapping.ensures c.in_ok-rows.ensures.change);
      left =
          next_range us ranges w stays.1 r next rows c.in-Some-next_overlapping.ensures begins
          ∙ stays.0 ∙ c.range.invariant.left;
      asks =
          next_begins old ranges c.args.walk.now w now passed r next c.in-Some-next_overlapping.ensures
          c.first_rows.new.units.items c.in_ok-rows.ensures.reads c.in_ok-rows.ensures.change.cost.more
          (c.in_ok-rows.ensures.kept (rows_not_refused _)) rows c.in_ok-rows.ensures.range begins;
      way = λ n come.
          c.range.invariant.way n
          (on_way n
          (way_of_range ranges w r next c.in-Some-next_overlapping.ensures rows c.in_ok-rows.ensures.range n come));
    })

pub enter-requires : goal.enter-requires
enter-requires g c =
    in_no_range (map plain_unit c.range.units.items) c.range.walk c.next_of_rows.new.walk c.in_ok-stretch.field-0
    c.in_default.is c.in_ok-stretch.ensures.stretch

pub returns-in_err-stretch-clause-change : goal.returns-in_err-stretch-clause-change
returns-in_err-stretch-clause-change g c =
    let us = c.args.units.now.items in
    let ranges = c.args.ranges.now in
    walks_on ranges us c.range.units.items c.next_of_rows.new.units.items c.range.invariant.change.values c.range.walk
    c.next_of_rows.new.walk c.args.walk.now (Err c.in_err-stretch.field-0.0)
    (walk_looks (map plain_unit us) ranges c.args.walk.now + 3) (omega arith) c.range.invariant.change
    c.in_err-stretch.ensures.stretch c.in_err-stretch.ensures.change

pub returns-in-Some-clause-change : goal.returns-in-Some-clause-change
returns-in-Some-clause-change g c =
    let us = c.args.units.now.items in
    let ranges = c.args.ranges.now in
    let few = found_few c.in_ok-stretch.field-0 in
    walks_on ranges us c.range.units.items c.next_of_rows.new.units.items c.range.invariant.change.values c.range.walk
    c.next_of_rows.new.walk c.args.walk.now (Ok c.in_ok-stretch.field-0)
    (walk_looks (map plain_unit us) ranges c.args.walk.now + 3) (omega (arith, few)) c.range.invariant.change
    c.in_ok-stretch.ensures.stretch c.in_ok-stretch.ensures.change

pub returns-in_default-next_overlapping-clause-change : goal.returns-in_default-next_overlapping-clause-change
returns-in_default-next_overlapping-clause-change g c =
    let us = c.args.units.now.items in
    let ranges = c.args.ranges.now in
    let few = found_few c.in_ok-stretch.field-0 in
    walks_on ranges us c.range.units.items c.next_of_rows.new.units.items c.range.invariant.change.values c.range.walk
    c.next_of_rows.new.walk c.args.walk.now (Ok c.in_ok-stretch.field-0)
    (walk_looks (map plain_unit us) ranges c.args.walk.now + 3) (omega (arith, few)) c.range.invariant.change
    c.in_ok-stretch.ensures.stretch c.in_ok-stretch.ensures.change

pub returns-in_err-rows-clause-change : goal.returns-in_err-rows-clause-change
returns-in_err-rows-clause-change g c =
    let us = c.args.units.now.items in
    let now = c.next_of_rows.new.units.items in
    let ranges = c.args.ranges.now in
    let w = c.next_of_rows.new.walk in
    let begun = walk_looks (map plain_unit us) ranges c.args.walk.now in
    let left = walk_looks (map plain_unit us) ranges w in
    let few = found_few c.in_ok-stretch.field-0 in
    walks_both (begun + 3) left left us now c.first_rows.new.units.items
    (walks_on ranges us c.range.units.items now c.range.invariant.change.values c.range.walk w c.args.walk.now
    (Ok c.in_ok-stretch.field-0) (begun + 3) (omega (arith, few)) c.range.invariant.change
    c.in_ok-stretch.ensures.stretch c.in_ok-stretch.ensures.change)
    (refused_walks ranges us now c.first_rows.new.units.items
    (c.in_ok-stretch.ensures.change.values ∙ c.range.invariant.change.values) w c.in-Some-next_overlapping.range
    c.in_err-rows.field-0.0 c.in_err-rows.ensures.change left)

-- ---- lines that are asked for

pub returns-in_err-stretch-clause-asked : goal.returns-in_err-stretch-clause-asked
returns-in_err-stretch-clause-asked g c =
    let p = err_from_is_err_and c.from_residual.result c.from_residual.ensures.1 in
    rw (p.1, p.2) (λ other. absurd (other (ap refused_stretch c.in_err-stretch.ensures.stretch.1)))

pub returns-in-Some-clause-asked : goal.returns-in-Some-clause-asked
returns-in-Some-clause-asked g c = λ answered.
    rows_found c.args.units.now.items c.args.ranges.now c.args.walk.now c.range.walk c.range.units.items
    c.range.invariant.asks c.next_of_rows.new.units.items c.in_ok-stretch.ensures.reads
    c.in_ok-stretch.ensures.change.cost.more (c.in_ok-stretch.ensures.asked (stretch_not_refused _))
    c.range.invariant.change.values c.next_of_rows.new.walk c.in_ok-stretch.field-0 c.in_ok-stretch.ensures.stretch
    c.in-Some.stretch c.in-Some.is

pub returns-in_default-next_overlapping-clause-asked : goal.returns-in_default-next_overlapping-clause-asked
returns-in_default-next_overlapping-clause-asked g c = λ answered.
    let old = c.args.units.now.items in
    let ranges = c.args.ranges.now in
    let now = c.next_of_rows.new.units.items in
    walk_ends old ranges c.args.walk.now c.next_of_rows.new.walk now
    (rows_passed old ranges c.args.walk.now c.range.walk c.range.units.items c.range.invariant.asks now
    c.in_ok-stretch.ensures.reads c.in_ok-stretch.ensures.change.cost.more
    (c.in_ok-stretch.ensures.asked (stretch_not_refused _)) c.range.invariant.change.values c.next_of_rows.new.walk
    c.in_ok-stretch.field-0 c.in_ok-stretch.ensures.stretch c.in_default.is) c.in_default-next_overlapping.ensures

pub returns-in_err-rows-clause-asked : goal.returns-in_err-rows-clause-asked
returns-in_err-rows-clause-asked g c =
    let p = err_from_is_err_and c.from_residual-in_err-rows.result c.from_residual-in_err-rows.ensures.1 in
    let old = c.args.units.now.items in
    let ranges = c.args.ranges.now in
    let w = c.next_of_rows.new.walk in
    let now = c.next_of_rows.new.units.items in
    let r = c.in-Some-next_overlapping.range in
    let e = c.in_err-rows.field-0.0 in
    let refuses : BeginsRange (map unit_places (map plain_unit old)) w.low w.high r (Err e) =
    subst (λ (xs : List ContextUnit). BeginsRange (map unit_places xs) w.low w.high r (Err e))
    (same_plain now old (c.in_ok-stretch.ensures.change.values ∙ c.range.invariant.change.values))
    (c.in_err-rows.ensures.rows w.high) in
    rw (p.1, p.2) (λ other.
    next_refused old ranges c.args.walk.now w now
    (rows_passed old ranges c.args.walk.now c.range.walk c.range.units.items c.range.invariant.asks now
    c.in_ok-stretch.ensures.reads c.in_ok-stretch.ensures.change.cost.more
    (c.in_ok-stretch.ensures.asked (stretch_not_refused _)) c.range.invariant.change.values w c.in_ok-stretch.field-0
    c.in_ok-stretch.ensures.stretch c.in_default.is) r c.in-Some-next_overlapping.next
    c.in-Some-next_overlapping.ensures c.first_rows.new.units.items c.in_err-rows.ensures.reads
    c.in_err-rows.ensures.change.cost.more
    (c.in_err-rows.ensures.kept (refused_so (Option UnitStretch) (Option RangeRows) _ Memory other)) e
    (λ is. other (ap refused_stretch is)) refuses)

pub returns-in_err-stretch-clause-reads : goal.returns-in_err-stretch-clause-reads
returns-in_err-stretch-clause-reads g c =
    rows_reads c.args.units.now.items c.args.ranges.now c.args.walk.now c.range.walk c.range.units.items
    c.range.invariant.asks c.next_of_rows.new.units.items c.in_err-stretch.ensures.reads

pub returns-in-Some-clause-reads : goal.returns-in-Some-clause-reads
returns-in-Some-clause-reads g c =
    rows_reads c.args.units.now.items c.args.ranges.now c.args.walk.now c.range.walk c.range.units.items
    c.range.invariant.asks c.next_of_rows.new.units.items c.in_ok-stretch.ensures.reads

pub returns-in_default-next_overlapping-clause-reads : goal.returns-in_default-next_overlapping-clause-reads
returns-in_default-next_overlapping-clause-reads g c =
    rows_reads c.args.units.now.items c.args.ranges.now c.args.walk.now c.range.walk c.range.units.items
    c.range.invariant.asks c.next_of_rows.new.units.items c.in_ok-stretch.ensures.reads

pub returns-in_err-rows-clause-reads : goal.returns-in_err-rows-clause-reads
returns-in_err-rows-clause-reads g c =
    let old = c.args.units.now.items in
    let ranges = c.args.ranges.now in
    let w = c.next_of_rows.new.walk in
    let now = c.next_of_rows.new.units.items in
    next_reads old ranges c.args.walk.now w now
    (rows_passed old ranges c.args.walk.now c.range.walk c.range.units.items c.range.invariant.asks now
    c.in_ok-stretch.ensures.reads c.in_ok-stretch.ensures.change.cost.more
    (c.in_ok-stretch.ensures.asked (stretch_not_refused _)) c.range.invariant.change.values w c.in_ok-stretch.field-0
    c.in_ok-stretch.ensures.stretch c.in_default.is) c.in-Some-next_overlapping.range
    c.in-Some-next_overlapping.next c.in-Some-next_overlapping.ensures c.first_rows.new.units.items
    c.in_err-rows.ensures.reads

pub returns-in_err-stretch-clause-free : goal.returns-in_err-stretch-clause-free
returns-in_err-stretch-clause-free g c =
    let p = err_from_is_err_and c.from_residual.result c.from_residual.ensures.1 in
    rw (p.1, p.2) (λ kept.
    c.in_err-stretch.ensures.free
    (rows_kept c.args.units.now.items c.args.ranges.now c.args.walk.now c.range.walk c.range.units.items
    c.range.invariant.asks kept))

pub returns-in_err-rows-clause-free : goal.returns-in_err-rows-clause-free
returns-in_err-rows-clause-free g c =
    let p = err_from_is_err_and c.from_residual-in_err-rows.result c.from_residual-in_err-rows.ensures.1 in
    let old = c.args.units.now.items in
    let ranges = c.args.ranges.now in
    let w = c.next_of_rows.new.walk in
    let now = c.next_of_rows.new.units.items in
    rw (p.1, p.2) (λ kept.
    refused_so (Option RangeRows) (Option UnitStretch) _ Memory
    (c.in_err-rows.ensures.free
    (next_kept old ranges c.args.walk.now w now
    (rows_passed old ranges c.args.walk.now c.range.walk c.range.units.items c.range.invariant.asks now
    c.in_ok-stretch.ensures.reads c.in_ok-stretch.ensures.change.cost.more
    (c.in_ok-stretch.ensures.asked (stretch_not_refused _)) c.range.invariant.change.values w c.in_ok-stretch.field-0
    c.in_ok-stretch.ensures.stretch c.in_default.is) c.in-Some-next_overlapping.range
    c.in-Some-next_overlapping.next c.in-Some-next_overlapping.ensures kept)))

-- ---- units that the walk comes to

pub returns-in_err-stretch-clause-way : goal.returns-in_err-stretch-clause-way
returns-in_err-stretch-clause-way g c n come =
    c.range.invariant.way n
    (way_of_rows (map plain_unit c.range.units.items) c.args.ranges.now (Err c.in_err-stretch.field-0.0) c.range.walk
    c.next_of_rows.new.walk c.in_err-stretch.ensures.stretch c.in_err-stretch.ensures.unit n come)

pub returns-in-Some-clause-way : goal.returns-in-Some-clause-way
returns-in-Some-clause-way g c n come =
    c.range.invariant.way n
    (way_of_rows (map plain_unit c.range.units.items) c.args.ranges.now (Ok c.in_ok-stretch.field-0) c.range.walk
    c.next_of_rows.new.walk c.in_ok-stretch.ensures.stretch c.in_ok-stretch.ensures.unit n come)

pub returns-in_default-next_overlapping-clause-way : goal.returns-in_default-next_overlapping-clause-way
returns-in_default-next_overlapping-clause-way g c n come =
    c.range.invariant.way n
    (way_of_rows (map plain_unit c.range.units.items) c.args.ranges.now (Ok c.in_ok-stretch.field-0) c.range.walk
    c.next_of_rows.new.walk c.in_ok-stretch.ensures.stretch c.in_ok-stretch.ensures.unit n come)

pub returns-in_err-rows-clause-way : goal.returns-in_err-rows-clause-way
returns-in_err-rows-clause-way g c n come =
    c.range.invariant.way n
    (way_of_rows (map plain_unit c.range.units.items) c.args.ranges.now (Ok c.in_ok-stretch.field-0) c.range.walk
    c.next_of_rows.new.walk c.in_ok-stretch.ensures.stretch c.in_ok-stretch.ensures.unit n come)
