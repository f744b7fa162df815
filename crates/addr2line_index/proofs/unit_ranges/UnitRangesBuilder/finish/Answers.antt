use Rattle.std.proofs.Common.{◌∙◌, ap, rules, subst}
use Rattle.std.specs.Ordering.{nat_cmp}
use Rattle.std.specs.List.Sorted.{IsStableByKey}
use Rattle.std.proofs.lemmas.List.Sorted.{IsNonDecreasingBy-from_sort_by_key, answers_always}
use Rattle.addr2line_index.specs.SharedRanges.{pairs_in_all, shared_of_runs}
use Rattle.addr2line_index.proofs.SharedRangeLemmas.{shared_end}
use Rattle.addr2line_index.proofs.NumberedRangeLemmas.{sorted_ranges}
use Rattle.addr2line_index.proofs.BoundedRangeLemmas.{bounded_in_order}
use Rattle.addr2line_index.proofs.unit_ranges.UnitRangesBuilder.finish.Goals as goal

pub invariant_of-result : goal.invariant_of-result
invariant_of-result c =
    let sort = c.in_ok-sort_by_key.ensures in
    let sorted = c.sort_by_key.new.self.items in
    let made = c.in_ok-entries.ensures in (
      bounded_in_order c.in_ok-entries.entries.items sorted (made.ranges ∙ c.as_slice-2.ensures.value)
          (IsNonDecreasingBy-from_sort_by_key shared_end sorted sort.sorted (λ a r q k. search rules)),
      made.bounds,
      made.counts,
    )

pub returns-clause-ok : goal.returns-clause-ok
returns-clause-ok c units of =
    let sort = c.in_ok-sort_by_key.ensures in
    let sorted = c.sort_by_key.new.self.items in
    let runs = c.self.inside.runs.items in
    let all = c.in_ok-ranges.ensures.ok ∙ ap shared_of_runs c.as_slice.ensures.value in
    ap pairs_in_all (c.in_ok-entries.ensures.ranges ∙ c.as_slice-2.ensures.value)
    ∙ sorted_ranges runs sorted units c.self.invariant
    (IsNonDecreasingBy-from_sort_by_key shared_end sorted sort.sorted (λ a r q k. search rules))
    (subst (λ l. IsStableByKey shared_end nat_cmp l sorted) all
    (sort.stable shared_end (answers_always _ _ _ (λ f a r q k. search rules))))
    (c.self.view_is ∙ of)
