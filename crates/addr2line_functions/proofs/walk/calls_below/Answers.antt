use Rattle.std.proofs.Common.{◌∙◌, [], ◌∷◌, pos, ◌<ℤ◌, ap, sym, arith}
use Rattle.std.proofs.lemmas.Int.{ints}
use Rattle.std.proofs.lemmas.Result.{err_from_is_err_and}
use Rattle.gimli_units_entries.specs.View.{bytes_left}
use Rattle.gimli_units_entries.specs.EntryWalks.{Walk}
use Rattle.addr2line_ranges.proofs.EntryLevels.{leads, lt_is, not_lt_is}
use Rattle.addr2line_functions.specs.CallNesting.{calls_from, leave, is_call_where}
use Rattle.addr2line_functions.proofs.NestingLemmas.{matches_first}
use Rattle.addr2line_functions.proofs.CallEntrySteps.{calls_then, entry_parts, calls-more, call-takes, calls-refused, calls-end, calls-start}
use Rattle.addr2line_functions.proofs.OtherCallSteps.{below_first, below_more, calls-found, inside_within}
use Rattle.addr2line_functions.proofs.walk.calls_below.Goals as goal

pub loop-alloc-init : goal.loop-alloc-init
loop-alloc-init g c = (
  [],
  matches_first c.args.entries.depth c.new-nesting.result c.new-nesting.ensures,
  below_first,
  calls-start g.R.Offset.ReaderOffset.limit c.args.unit.now
      (g.N.Names.naming c.args.names.now) c.new-calls.result c.args.entries c.new-calls.ensures,
)

pub returns-in_err-next : goal.returns-in_err-next
returns-in_err-next g c =
    let limit = g.R.Offset.ReaderOffset.limit in
    let u = c.args.unit.now in
    let naming = g.N.Names.naming c.args.names.now in
    let p = err_from_is_err_and c.from_residual.result c.from_residual.ensures.1 in
    let i = c.loop-alloc.invariant in
    let found = c.loop-alloc.calls in
    let w = c.find_call.new.entries in
    let now = c.find_call.new.nesting in
    let s = calls-found limit u naming i.0 c.loop-alloc.entries w c.loop-alloc.nesting now i.2 i.1
    c.find_call.ensures.inside c.find_call.ensures.others in
    rw (p.1, p.2)
    (λ m. sym i.3 ∙ ap (calls_then found) (sym s.same)
    ∙ calls-refused limit u naming found s.rows w now c.in_err-next.field-0.0
    (lt_is (pos 0) w.depth (sym c.find_call.ensures.left ∙ c.loop-alloc-test.true)) s.matches
    (c.in_err-next.ensures m))

pub loop-alloc-smaller : goal.loop-alloc-smaller
loop-alloc-smaller g c =
    let limit = g.R.Offset.ReaderOffset.limit in
    let u = c.args.unit.now in
    let naming = g.N.Names.naming c.args.names.now in
    let w = c.find_call.new.entries in
    let now = c.find_call.new.nesting in
    let takes = call-takes limit u naming w c.next_call.new.entries now c.next_call.new.nesting c.in_ok-next.next
    (entry_parts limit u naming w c.next_call.new.entries now c.next_call.new.nesting c.in_ok-next.next
    c.in_ok-next.ensures) in
    let within = inside_within now c.loop-alloc.entries in
    let same = ap (λ (x : Walk). bytes_left x.rest) c.find_call.ensures.others in
    omega (arith, takes, within, same)

pub loop-alloc-preserved : goal.loop-alloc-preserved
loop-alloc-preserved g c =
    let limit = g.R.Offset.ReaderOffset.limit in
    let u = c.args.unit.now in
    let naming = g.N.Names.naming c.args.names.now in
    let found = c.loop-alloc.calls in
    let next = c.in_ok-next.next in
    let w = c.find_call.new.entries in
    let t = c.next_call.new.entries in
    let now = c.find_call.new.nesting in
    let p = c.next_call.new.nesting in
    let i = c.loop-alloc.invariant in
    let s = calls-found limit u naming i.0 c.loop-alloc.entries w c.loop-alloc.nesting now i.2 i.1
    c.find_call.ensures.inside c.find_call.ensures.others in
    let some : pos 0 <ℤ w.depth =
    lt_is (pos 0) w.depth (sym c.find_call.ensures.left ∙ c.loop-alloc-test.true) in
    let e = entry_parts limit u naming w t now p next c.in_ok-next.ensures in
    let more = calls-more limit u naming found s.rows w t now p next some s.matches e in
    let at = (leads limit (is_call_where (leave w.depth now)) w t e.row e.read).at in
    let same = c.in_ok-calls.ensures.ok in (
      e.row ∷ s.rows,
      more.0,
      below_more e.row s.rows (omega (arith, ints, some, at)) s.below,
      ap (λ l. calls_then l (calls_from limit u naming (record { walk = t; before = e.row ∷ s.rows }))) same
          ∙ more.1 ∙ ap (calls_then found) s.same ∙ i.3,
    )

pub returns-in_err-calls : goal.returns-in_err-calls
returns-in_err-calls g c =
    let p = err_from_is_err_and c.from_residual-in_err-calls.result
    c.from_residual-in_err-calls.ensures.1 in
    rw (p.1, p.2) (λ m. absurd (m c.in_err-calls.ensures.refusal))

pub returns : goal.returns
returns g c =
    let limit = g.R.Offset.ReaderOffset.limit in
    let u = c.args.unit.now in
    let naming = g.N.Names.naming c.args.names.now in
    let i = c.loop-alloc.invariant in
    let found = c.loop-alloc.calls in
    let w = c.find_call.new.entries in
    let s = calls-found limit u naming i.0 c.loop-alloc.entries w c.loop-alloc.nesting c.find_call.new.nesting i.2 i.1
    c.find_call.ensures.inside c.find_call.ensures.others in
    sym i.3 ∙ ap (calls_then found) (sym s.same)
    ∙ calls-end limit u naming found s.rows w
    (not_lt_is (pos 0) w.depth (sym c.find_call.ensures.left ∙ c.loop-alloc-test.false))
