use Rattle.std.proofs.Common.{◌≡◌, List, Option, Ok, map, subst, sym, arith}
use Rattle.std.proofs.lemmas.Result.{err_from_is_err_and}
use Rattle.addr2line_unit.specs.Error.TheVariants.{Memory}
use Rattle.addr2line_unit.specs.Contexts.{ContextUnit}
use Rattle.addr2line_unit.specs.ContextUnits.{unit_places}
use Rattle.addr2line_unit.specs.ResolvedUnits.{plain_unit}
use Rattle.addr2line_lookups.specs.KeptUnits.{check_at}
use Rattle.addr2line_lookups.specs.LookupCosts.{WalksLines}
use Rattle.addr2line_lookups.specs.RangeWalks.{BeginsRange, range_looks, rows_looks}
use Rattle.addr2line_lookups.specs.declared.range_walk.RangeRows.{RangeRows}
use Rattle.addr2line_lookups.proofs.AskedLines.{no_stop, reads_first}
use Rattle.addr2line_lookups.proofs.AskedStretches.{refused_range_ends}
use Rattle.addr2line_lookups.proofs.KeptLines.{same_plain}
use Rattle.addr2line_lookups.proofs.UnitProbes.{refused_so}
use Rattle.addr2line_lookups.proofs.WalkLooks.{walks_after, walks_reading}
use Rattle.addr2line_lookups.proofs.range_walk.first_rows.Goals as goal

pub returns-in_err-check_at-clause-rows : goal.returns-in_err-check_at-clause-rows
returns-in_err-check_at-clause-rows g c high =
    let p = err_from_is_err_and c.from_residual.result c.from_residual.ensures.1 in
    rw (p.1, p.2) (λ other rest.
    refused_range_ends c.args.low high c.args.range c.in_err-check_at.field-0.0 rest
    (map plain_unit c.args.units.now.items) (c.in_err-check_at.ensures.found other))

pub returns-in_err-check_at-clause-kept : goal.returns-in_err-check_at-clause-kept
returns-in_err-check_at-clause-kept g c =
    let p = err_from_is_err_and c.from_residual.result c.from_residual.ensures.1 in
    rw (p.1, p.2) (λ other.
    c.in_err-check_at.ensures.kept (refused_so (Option RangeRows) (Unit {0}) _ Memory other))

pub returns-in_err-check_at-clause-free : goal.returns-in_err-check_at-clause-free
returns-in_err-check_at-clause-free g c =
    let p = err_from_is_err_and c.from_residual.result c.from_residual.ensures.1 in
    rw (p.1, p.2) (λ kept.
    refused_so (Unit {0}) (Option RangeRows) _ Memory (c.in_err-check_at.ensures.free kept))

pub returns-in_err-check_at-clause-change : goal.returns-in_err-check_at-clause-change
returns-in_err-check_at-clause-change g c =
    let p = err_from_is_err_and c.from_residual.result c.from_residual.ensures.1 in
    let us = c.args.units.now.items in
    let n = range_looks (map plain_unit us) c.args.range in
    rw p.1 (walks_reading n n us c.check_at.new.units.items (omega arith) c.in_err-check_at.ensures.change)

pub rows_in-requires-clause-kept : goal.rows_in-requires-clause-kept
rows_in-requires-clause-kept g c = c.in_ok-check_at.ensures.kept (no_stop _)

pub rows_in-requires-clause-lines : goal.rows_in-requires-clause-lines
rows_in-requires-clause-lines g c =
    subst (λ (us : List ContextUnit). check_at us c.args.range.unit ≡ Ok tt)
    (sym (same_plain c.check_at.new.units.items c.args.units.now.items c.in_ok-check_at.ensures.change.values))
    c.in_ok-check_at.ensures.found

pub returns-clause-change : goal.returns-clause-change
returns-clause-change g c =
    let us = c.args.units.now.items in
    let vs = c.check_at.new.units.items in
    let ws = c.rows_in.new.units.items in
    let r = c.args.range in
    let rows = c.rows_in.result in
    walks_after (range_looks (map plain_unit us) r) (rows_looks (map plain_unit us) rows) us vs ws
    c.in_ok-check_at.ensures.change
    (subst (λ (xs : List ContextUnit). WalksLines (range_looks xs r) (rows_looks xs rows) vs ws)
    (same_plain vs us c.in_ok-check_at.ensures.change.values) c.rows_in.ensures.change)

pub returns-clause-reads : goal.returns-clause-reads
returns-clause-reads g c =
    reads_first (λ n. n ≡ c.args.range.unit) c.args.units.now.items c.check_at.new.units.items
    c.rows_in.new.units.items c.in_ok-check_at.ensures.reads c.rows_in.ensures.lines

pub returns-clause-rows : goal.returns-clause-rows
returns-clause-rows g c high =
    subst (λ (us : List ContextUnit).
    BeginsRange (map unit_places us) c.args.low high c.args.range (Ok c.rows_in.result))
    (same_plain c.check_at.new.units.items c.args.units.now.items c.in_ok-check_at.ensures.change.values)
    (c.rows_in.ensures.rows high)

pub returns-clause-kept : goal.returns-clause-kept
returns-clause-kept g c = λ answered.
    c.rows_in.ensures.change.cost.more c.args.range.unit (c.in_ok-check_at.ensures.kept (no_stop _))
