use Rattle.std.proofs.Common.{◌≡◌, ◌∙◌, ◌+◌, List, [], Option, Some, None, ap, map, refl, subst, sym, arith}
use Rattle.std.proofs.lemmas.Result.{err_from_is_err_and}
use Rattle.addr2line_unit.specs.Error.TheVariants.{Memory}
use Rattle.addr2line_unit.specs.Contexts.{ContextUnit}
use Rattle.addr2line_unit.specs.UnitRange.{UnitRange}
use Rattle.addr2line_unit.specs.ContextUnits.{unit_places}
use Rattle.addr2line_unit.specs.ResolvedUnits.{plain_unit}
use Rattle.addr2line_lookups.specs.KeptUnits.{KeepsAt, ReadsAsked}
use Rattle.addr2line_lookups.specs.LookupCosts.{WalksLines}
use Rattle.addr2line_lookups.specs.RangeWalks.{rows_left, rows_looks, FirstStretch, NextInRange, IsUnitOfRows}
use Rattle.addr2line_lookups.specs.declared.range_walk.RangeRows.{RangeRows}
use Rattle.addr2line_lookups.specs.declared.range_walk.UnitStretch.{UnitStretch}
use Rattle.addr2line_lookups.proofs.AskedLines.{reads_first}
use Rattle.addr2line_lookups.proofs.AskedStretches.{rows_are_kept, unit_is_kept, no_rows_kept, refused_stretch}
use Rattle.addr2line_lookups.proofs.KeptLines.{same_plain}
use Rattle.addr2line_lookups.proofs.UnitProbes.{refused_so}
use Rattle.addr2line_lookups.proofs.WalkLooks.{walks_none, walks_reading, walks_after}
use Rattle.addr2line_lookups.proofs.range_walk.next_of_rows.Goals as goal

-- ---- looks

pub returns-in_default-clause-change : goal.returns-in_default-clause-change
returns-in_default-clause-change g c =
    let us = c.args.units.now.items in
    let n = rows_looks (map plain_unit us) c.args.walk.now.rows in
    walks_none (n + 0) n us (omega arith)

pub returns-in_err-read_at-clause-change : goal.returns-in_err-read_at-clause-change
returns-in_err-read_at-clause-change g c =
    let p = err_from_is_err_and c.from_residual.result c.from_residual.ensures.1 in
    let us = c.args.units.now.items in
    let n = rows_looks (map plain_unit us) c.args.walk.now.rows in
    rw p.1 (walks_reading (n + 0) n us c.read_at.new.units.items (omega arith) c.in_err-read_at.ensures.change)

pub returns-in-Some-next_in-clause-change : goal.returns-in-Some-next_in-clause-change
returns-in-Some-next_in-clause-change g c =
    let us = c.args.units.now.items in
    let vs = c.read_at.new.units.items in
    let ws = c.next_in.new.units.items in
    let units = map plain_unit us in
    let rows = c.in-Some.rows in
    let after = rows_looks units (Some c.in-Some-next_in.rest) in
    subst (λ (o : Option RangeRows). WalksLines (rows_looks units o + 3) after us ws) (sym c.in-Some.is)
    (walks_after (rows_looks units (Some rows) + 3) after us vs ws c.in_ok-read_at.ensures.change
    (subst (λ (xs : List ContextUnit).
    WalksLines (rows_looks xs (Some rows) + 3) (rows_looks xs (Some c.in-Some-next_in.rest)) vs ws)
    (same_plain vs us c.in_ok-read_at.ensures.change.values) c.in-Some-next_in.ensures.change))

pub returns-in-None-clause-change : goal.returns-in-None-clause-change
returns-in-None-clause-change g c =
    let us = c.args.units.now.items in
    let vs = c.read_at.new.units.items in
    let ws = c.next_in.new.units.items in
    let units = map plain_unit us in
    let rows = c.in-Some.rows in
    subst (λ (o : Option RangeRows). WalksLines (rows_looks units o + 0) 0 us ws) (sym c.in-Some.is)
    (walks_after (rows_looks units (Some rows) + 0) 0 us vs ws c.in_ok-read_at.ensures.change
    (subst (λ (xs : List ContextUnit). WalksLines (rows_looks xs (Some rows) + 0) 0 vs ws)
    (same_plain vs us c.in_ok-read_at.ensures.change.values) c.in-None.ensures.change))

-- ---- the next stretch

pub returns-in_default-clause-stretch : goal.returns-in_default-clause-stretch
returns-in_default-clause-stretch g c =
    let w = c.args.walk.now in
    let us = map unit_places (map plain_unit c.args.units.now.items) in (
      ap (λ (o : Option RangeRows). record w { rows = o }) c.in_default.is,
      ap (rows_left us w.low w.high) c.in_default.is,
    )

pub returns-in-Some-next_in-clause-stretch : goal.returns-in-Some-next_in-clause-stretch
returns-in-Some-next_in-clause-stretch g c =
    let w = c.args.walk.now in
    let units = map plain_unit c.args.units.now.items in
    let us = map unit_places units in
    let s = c.in-Some-next_in.stretch in
    let rest = rows_left us w.low w.high (Some c.in-Some-next_in.rest) in (
      refl,
      subst (λ (o : Option RangeRows). FirstStretch units s (rows_left us w.low w.high o) rest) (sym c.in-Some.is)
          (subst (λ (xs : List ContextUnit). NextInRange xs w.low w.high c.in-Some.rows
          (Some (s, c.in-Some-next_in.rest)))
          (same_plain c.read_at.new.units.items c.args.units.now.items c.in_ok-read_at.ensures.change.values)
          c.in-Some-next_in.ensures.stretch),
    )

pub returns-in-None-clause-stretch : goal.returns-in-None-clause-stretch
returns-in-None-clause-stretch g c =
    let w = c.args.walk.now in
    let us = map unit_places (map plain_unit c.args.units.now.items) in (
      refl,
      subst (λ (o : Option RangeRows). rows_left us w.low w.high o ≡ []) (sym c.in-Some.is)
          (subst (λ (xs : List ContextUnit). NextInRange xs w.low w.high c.in-Some.rows None)
          (same_plain c.read_at.new.units.items c.args.units.now.items c.in_ok-read_at.ensures.change.values)
          c.in-None.ensures.stretch),
    )

-- ---- lines that are asked for

pub returns-in-Some-next_in-clause-kept : goal.returns-in-Some-next_in-clause-kept
returns-in-Some-next_in-clause-kept g c =
    subst (KeepsAt c.next_in.new.units.items) (sym c.in-Some-next_in.ensures.unit)
    (c.in-Some-next_in.ensures.change.cost.more c.in-Some.rows.range.unit c.in_ok-read_at.ensures.kept)

pub returns-in_err-read_at-clause-reads : goal.returns-in_err-read_at-clause-reads
returns-in_err-read_at-clause-reads g c =
    let reads : Option RangeRows → Type 0 =
    λ o. ReadsAsked (IsUnitOfRows o) c.args.units.now.items c.read_at.new.units.items in
    subst reads (sym c.in-Some.is) c.in_err-read_at.ensures.reads

pub returns-in-Some-next_in-clause-reads : goal.returns-in-Some-next_in-clause-reads
returns-in-Some-next_in-clause-reads g c =
    let us = c.args.units.now.items in
    let ws = c.next_in.new.units.items in
    let reads : Option RangeRows → Type 0 = λ o. ReadsAsked (IsUnitOfRows o) us ws in
    subst reads (sym c.in-Some.is)
    (reads_first (IsUnitOfRows (Some c.in-Some.rows)) us c.read_at.new.units.items ws c.in_ok-read_at.ensures.reads
    c.in-Some-next_in.ensures.lines)

pub returns-in-None-clause-reads : goal.returns-in-None-clause-reads
returns-in-None-clause-reads g c =
    let us = c.args.units.now.items in
    let ws = c.next_in.new.units.items in
    let reads : Option RangeRows → Type 0 = λ o. ReadsAsked (IsUnitOfRows o) us ws in
    subst reads (sym c.in-Some.is)
    (reads_first (IsUnitOfRows (Some c.in-Some.rows)) us c.read_at.new.units.items ws c.in_ok-read_at.ensures.reads
    c.in-None.ensures.lines)

pub returns-in-Some-next_in-clause-unit : goal.returns-in-Some-next_in-clause-unit
returns-in-Some-next_in-clause-unit g c n is =
    subst (λ (o : Option RangeRows). IsUnitOfRows o n) (sym c.in-Some.is)
    (is ∙ ap (λ (r : UnitRange). r.unit) c.in-Some-next_in.ensures.range)

pub returns-in-None-clause-unit : goal.returns-in-None-clause-unit
returns-in-None-clause-unit g c n is = absurd is

pub returns-in_default-clause-asked : goal.returns-in_default-clause-asked
returns-in_default-clause-asked g c = λ answered.
    no_rows_kept c.args.walk.now.rows c.in_default.is c.args.units.now.items

pub returns-in_err-read_at-clause-asked : goal.returns-in_err-read_at-clause-asked
returns-in_err-read_at-clause-asked g c =
    let p = err_from_is_err_and c.from_residual.result c.from_residual.ensures.1 in
    rw (p.1, p.2) (λ other. absurd (other (ap refused_stretch c.in_err-read_at.ensures.refusal)))

pub returns-in-Some-next_in-clause-asked : goal.returns-in-Some-next_in-clause-asked
returns-in-Some-next_in-clause-asked g c = λ answered.
    rows_are_kept c.args.walk.now.rows c.in-Some.rows c.in-Some.is c.next_in.new.units.items
    (c.in-Some-next_in.ensures.change.cost.more c.in-Some.rows.range.unit c.in_ok-read_at.ensures.kept)

pub returns-in-None-clause-asked : goal.returns-in-None-clause-asked
returns-in-None-clause-asked g c = λ answered.
    rows_are_kept c.args.walk.now.rows c.in-Some.rows c.in-Some.is c.next_in.new.units.items
    (c.in-None.ensures.change.cost.more c.in-Some.rows.range.unit c.in_ok-read_at.ensures.kept)

pub returns-in_err-read_at-clause-free : goal.returns-in_err-read_at-clause-free
returns-in_err-read_at-clause-free g c =
    let p = err_from_is_err_and c.from_residual.result c.from_residual.ensures.1 in
    rw (p.1, p.2) (λ kept.
    refused_so (Unit {0}) (Option UnitStretch) _ Memory
    (c.in_err-read_at.ensures.free
    (unit_is_kept c.args.walk.now.rows c.in-Some.rows c.in-Some.is c.args.units.now.items kept)))
