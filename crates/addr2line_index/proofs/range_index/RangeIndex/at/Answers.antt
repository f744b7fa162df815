use Rattle.std.proofs.Common.{◌≡◌, ◌∙◌, ap, sym, length, slice_get, arith}
use Rattle.addr2line_index.specs.RangeLevels.{by_level, comes_before}
use Rattle.addr2line_index.proofs.SortedOrder.{in_order-length}
use Rattle.addr2line_index.proofs.range_index.RangeIndex.at.Goals as goal

pub at-requires-clause-within : goal.at-requires-clause-within
at-requires-clause-within g c =
    let items = c.self.inside.items.value.items in
    let many : length c.self.inside.sorted.entries ≡ length c.args.self.now.entries =
    ap length c.self.invariant
    ∙ in_order-length (λ x y. comes_before g.T.Ranged.level g.T.Ranged.range y x) items
    ∙ ap (λ l. length l.entries) c.self.view_is in
    omega arith

pub returns-clause-item : goal.returns-clause-item
returns-clause-item g c =
    let by = by_level g.T.Ranged.level g.T.Ranged.range in
    ap (λ l. slice_get l c.args.index) (sym (c.self.invariant ∙ ap (λ l. by l.entries) c.self.view_is))
    ∙ c.at.ensures.entry
