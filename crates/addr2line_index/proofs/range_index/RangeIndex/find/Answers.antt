use Rattle.std.proofs.Common.{◌≡◌, ◌∙◌, ap, sym, length, arith, subst}
use Rattle.std.specs.Prelude.{◌==◌, ◌&&◌, nat_lt}
use Rattle.std.specs.List.Sorted.{IsPartitionedBy}
use Rattle.addr2line_spec.specs.Choice.{only_if, holder}
use Rattle.addr2line_search.specs.Searches.{last_passing, digit_count}
use Rattle.addr2line_index.specs.RangeLevels.{at_level, begins_by, comes_before}
use Rattle.addr2line_index.proofs.SortedOrder.{in_order-length}
use Rattle.addr2line_index.proofs.RangeLevelLemmas.{begins_by_parted, holder_of_last}
use Rattle.addr2line_index.proofs.range_index.RangeIndex.find.Goals as goal

pub last_up_to-found-requires-clause-sorted : goal.last_up_to-found-requires-clause-sorted
last_up_to-found-requires-clause-sorted g c =
    let level = g.T.Ranged.level in
    let range = g.T.Ranged.range in
    subst (IsPartitionedBy (begins_by level range c.args.level c.args.address)) (sym c.self.invariant)
    (begins_by_parted level range c.args.level c.args.address c.self.inside.items.value.items)

pub returns-clause-holder : goal.returns-clause-holder
returns-clause-holder g c =
    let level = g.T.Ranged.level in
    let range = g.T.Ranged.range in
    let n = c.args.level in
    let a = c.args.address in
    let only = only_if (λ x. level x == n && nat_lt a (range x).end) in
    c.if_holds.ensures
    ∙ ap only c.last_up_to-found.ensures.entry
    ∙ ap (λ l. only (last_passing (begins_by level range n a) l)) c.self.invariant
    ∙ holder_of_last level range n a c.self.inside.items.value.items
    ∙ ap (λ l. holder range a (at_level level n l.entries)) c.self.view_is

pub returns-clause-cost : goal.returns-clause-cost
returns-clause-cost g c =
    let level = g.T.Ranged.level in
    let range = g.T.Ranged.range in
    let items = c.self.inside.items.value.items in
    let many : length c.self.inside.sorted.entries ≡ length c.args.self.now.entries =
    ap length c.self.invariant ∙ in_order-length (λ x y. comes_before level range y x) items
    ∙ ap (λ l. length l.entries) c.self.view_is in
    let digits = ap digit_count many in
    (c.last_up_to-found.ensures.cost.0, omega arith)
