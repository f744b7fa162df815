use Rattle.std.proofs.Common.{◌∙◌, ap, length}
use Rattle.addr2line_index.specs.RangeLevels.{comes_before}
use Rattle.addr2line_index.proofs.SortedOrder.{in_order-length}
use Rattle.addr2line_index.proofs.range_index.RangeIndex.len.Goals as goal

pub returns : goal.returns
returns g c =
    let items = c.self.inside.items.value.items in
    c.len.ensures ∙ ap length c.self.invariant
    ∙ in_order-length (λ x y. comes_before g.T.Ranged.level g.T.Ranged.range y x) items
    ∙ ap (λ l. length l.entries) c.self.view_is
