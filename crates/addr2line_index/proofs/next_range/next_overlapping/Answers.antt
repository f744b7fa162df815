use Rattle.std.proofs.Common.{◌∙◌, ◌+◌, ◌∷◌, sym, ap, drop}
use Rattle.addr2line_index.specs.NumberedRanges.{overlapping_ranges}
use Rattle.addr2line_index.specs.BoundedRanges.{ranges_in}
use Rattle.addr2line_index.proofs.BoundedRangeLemmas.{all_left, left_is, counted_here, overlapping_start, overlapping_found, stop_overlapping}
use Rattle.addr2line_index.proofs.next_range.next_overlapping.Goals as goal

pub loop-place-init : goal.loop-place-init
loop-place-init c =
    let a = c.args in
    let entries = a.entries.now in
    ap (λ n. overlapping_ranges a.low (a.last + 1) (all_left a.from (drop n entries))) c.count_skipped-place.ensures
    ∙ overlapping_start a.low (a.last + 1) a.from 0 entries c.requires.2
    ∙ ap (overlapping_ranges a.low (a.last + 1)) (sym (left_is a.from entries c.requires.2))

pub returns-then-last-entry : goal.returns-then-last-entry
returns-then-last-entry c =
    let a = c.args in
    sym c.loop-place.invariant
    ∙ stop_overlapping a.low a.last c.loop-place.place a.from a.entries.now _ c.loop-place-test.true c.requires.1
    c.if-last-entry.true

pub pair_between-requires : goal.pair_between-requires
pair_between-requires c =
    counted_here c.loop-place.place c.args.entries.now _ c.loop-place-test.true c.requires.2

pub returns-in-Some : goal.returns-in-Some
returns-in-Some c =
    let a = c.args in
    sym c.loop-place.invariant
    ∙ overlapping_found a.low (a.last + 1) c.loop-place.place a.from a.entries.now _ (c.in-Some.range, c.in-Some.next)
    c.loop-place-test.true c.requires.2 c.in-Some.ensures
    ∙ ap (λ n. c.in-Some.range ∷ overlapping_ranges a.low (a.last + 1) (drop n (ranges_in a.entries.now)))
    (sym c.place_after.ensures)
