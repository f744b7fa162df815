use Rattle.std.proofs.Common.{◌≡◌, ◌∙◌, ap, length, nat_le, arith}
use Rattle.std.specs.List.{prefix_len}
use Rattle.addr2line_spec.specs.Lines.{rows_to}
use Rattle.addr2line_search.specs.Searches.{digit_count}
use Rattle.addr2line_index.proofs.RowIndexLemmas.{greatest_parted, greatest_count, greatest_length}
use Rattle.addr2line_index.proofs.row_index.WideRows.count_to.Goals as goal

pub count_up_to-requires-clause-sorted : goal.count_up_to-requires-clause-sorted
count_up_to-requires-clause-sorted c =
    greatest_parted c.args.address c.self.inside.greatest.entries c.self.inside.rows.entries
    (ap (λ p. p.entries) c.self.invariant)

pub returns-clause-count : goal.returns-clause-count
returns-clause-count c =
    let a = c.args.address in
    c.count_up_to.ensures.count
    ∙ ap (λ p. prefix_len (λ n. nat_le n a) p.entries) c.self.invariant
    ∙ greatest_count a 0 c.self.inside.rows.entries (omega arith)
    ∙ ap (λ l. rows_to a l.entries) c.self.view_is

pub returns-clause-cost : goal.returns-clause-cost
returns-clause-cost c =
    let many : length c.self.inside.greatest.entries ≡ length c.args.self.now.entries =
    ap (λ p. length p.entries) c.self.invariant ∙ greatest_length 0 c.self.inside.rows.entries
    ∙ ap (λ l. length l.entries) c.self.view_is in
    let digits = ap digit_count many in
    (c.count_up_to.ensures.cost.0, omega arith)
