use Rattle.std.proofs.Common.{◌∙◌, ap, rules, ◌++◌}
use Rattle.std.proofs.lemmas.List.Sorted.{IsNonDecreasingBy-from_sort_by_key, answers_always}
use Rattle.gimli_lines_rows.specs.ArangeSets.{sets_to_come}
use Rattle.addr2line_ranges.specs.ArangeIndexes.{offset_of, aranges_of_sets}
use Rattle.addr2line_ranges.proofs.ArangeIndexLemmas.{index_of_sets}
use Rattle.addr2line_ranges.proofs.arange_index.ArangeIndex.read.Goals as goal

pub invariant_of-result : goal.invariant_of-result
invariant_of-result g c =
    IsNonDecreasingBy-from_sort_by_key offset_of c.sort_by_key.new.self.items c.in_ok-sort_by_key.ensures.sorted
    (λ a r q k. search rules)

pub returns-clause-ranges : goal.returns-clause-ranges
returns-clause-ranges g c =
    index_of_sets c.args.dwarf.now.file g.R.Offset.ReaderOffset.limit c.in_ok-sets.sets c.push_sets.new.aranges.items
    c.sort_by_key.new.self.items (search rules) (search rules)
    (c.in_ok-fault.ensures.ok
    ∙ ap (λ l. l ++ aranges_of_sets (sets_to_come g.R.Offset.ReaderOffset.limit c.in_ok-sets.sets).items)
    c.new-entries.ensures.items)
    (c.in_ok-sort_by_key.ensures.stable offset_of (answers_always _ _ _ (λ f a r q k. search rules)))
