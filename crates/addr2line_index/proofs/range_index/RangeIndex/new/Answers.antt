use Rattle.std.proofs.Common.{◌∙◌, ap, sym, rules}
use Rattle.std.proofs.lemmas.List.Sorted.{answers_always}
use Rattle.addr2line_index.specs.RangeLevels.{by_level, comes_before}
use Rattle.addr2line_index.proofs.SortedOrder.{in_order-sorted}
use Rattle.addr2line_index.proofs.RangeLevelLemmas.{before_is_order}
use Rattle.addr2line_index.proofs.range_index.RangeIndex.new.Goals as goal

pub invariant_of-result : goal.invariant_of-result
invariant_of-result g c =
    let level = g.T.Ranged.level in
    let range = g.T.Ranged.range in
    let lt = comes_before level range in
    let order = before_is_order level range in
    let sort = c.in_ok-sort_by.ensures in
    ap (λ l. l.entries) c.new.ensures
    ∙ in_order-sorted lt order c.args.items.items c.sort_by.new.self.items
    (sort.sorted lt order (answers_always _ _ _ (λ f a r q k. search rules)))
    (sort.stable lt order (answers_always _ _ _ (λ f a r q k. search rules)))
    ∙ ap (λ v. by_level level range v.items) (sym c.of-appearance.ensures)
