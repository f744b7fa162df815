use Rattle.std.proofs.Common.{◌∙◌, ap, sym, subst, drop, Vec, Global}
use Rattle.std.specs.List.Sorted.{IsNonDecreasingBy}
use Rattle.gimli_lines_rows.specs.Calls.{ReturnsAsOrNoMemory}
use Rattle.gimli_lines_rows.specs.Range.{Range}
use Rattle.addr2line_ranges.specs.ArangeIndexes.{offset_of, ranges_at, AscendsFrom}
use Rattle.addr2line_ranges.proofs.UnitRangeLemmas.{ok_ranges}
use Rattle.addr2line_ranges.proofs.ArangeIndexLemmas.{rest_of, ascends_from_first, ranges_from_first}
use Rattle.addr2line_ranges.proofs.arange_index.ArangeIndex.ranges_at.Goals as goal

pub first_ranges-requires : goal.first_ranges-requires
first_ranges-requires c =
    let entries = c.as_slice-entries.result.now in
    let first = c.count_below-first.result in
    let offset = c.args.offset in
    subst (AscendsFrom offset) (sym (rest_of first entries))
    (subst (λ n. AscendsFrom offset (drop n entries)) (sym c.count_below-first.ensures.count)
    (ascends_from_first offset entries
    (subst (IsNonDecreasingBy offset_of) (sym c.as_slice-entries.ensures.value) c.self.invariant)))

pub returns : goal.returns
returns c =
    let entries = c.as_slice-entries.result.now in
    let first = c.count_below-first.result in
    let offset = c.args.offset in
    subst (λ rs. ReturnsAsOrNoMemory (λ (v : Vec Range Global). v.items) c.first_ranges.result (ok_ranges rs))
    (ap (ranges_at offset) (rest_of first entries ∙ ap (λ n. drop n entries) c.count_below-first.ensures.count)
    ∙ ranges_from_first offset entries
    ∙ ap (ranges_at offset) c.as_slice-entries.ensures.value
    ∙ ap (λ i. ranges_at offset i.entries) c.self.view_is)
    c.first_ranges.ensures
