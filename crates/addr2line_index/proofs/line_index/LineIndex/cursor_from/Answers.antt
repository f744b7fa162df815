use Rattle.std.proofs.Common.{◌≡◌, ◌∙◌, ◌++◌, ℕ, Option, None, ap, subst, length, slice_get, arith}
use Rattle.std.proofs.lemmas.Option.{slice_get_past}
use Rattle.addr2line_spec.specs.Lines.{Sequence, lines_between, starts_after}
use Rattle.addr2line_search.specs.Searches.{digit_count}
use Rattle.addr2line_index.specs.LineIndexes.{CountedLines}
use Rattle.addr2line_index.specs.LineCursors.{sequences_by_start, stretches_by_start, lines_left}
use Rattle.addr2line_index.specs.Stretches.{sequence_from}
use Rattle.addr2line_index.proofs.SortedOrder.{in_order-length}
use Rattle.addr2line_index.proofs.line_index.LineIndex.cursor_from.Goals as goal

search_of : (x y : CountedLines) → x ≡ y
    → digit_count (length (sequences_by_start x.lines)) ≡ digit_count (length y.lines.sequences)
search_of x y same =
    ap (λ (l : CountedLines). digit_count (length (sequences_by_start l.lines))) same
    ∙ ap digit_count (in_order-length starts_after y.lines.sequences)

-- no row is at a place behind the last sequence
module _ (x : CountedLines) (low high next past : ℕ) (is : past ≡ length (sequences_by_start x.lines)) where
  left_from_start : stretches_by_start x.lines low high next ≡ lines_between x.lines low high
      → lines_left x.lines low high (record { place = record { sequence = past; row = 0 }; next = next })
      ≡ lines_between x.lines low high
  left_from_start first =
      let no : slice_get (sequences_by_start x.lines) past ≡ None =
      slice_get_past (sequences_by_start x.lines) past (omega (arith, is)) in
      ap (λ (o : Option Sequence). sequence_from x.lines.files high 0 o ++ stretches_by_start x.lines low high next) no
      ∙ first

pub returns-then-next-len-clause-cost : goal.returns-then-next-len-clause-cost
returns-then-next-len-clause-cost c =
    let digits = search_of c.indexed-lines.result.now c.args.self.now c.indexed-lines.ensures in
    (c.first_from-next.ensures.cost.0, omega arith)

pub returns-clause-lines : goal.returns-clause-lines
returns-clause-lines c high =
    let next = c.first_from-next.result in
    let past = c.len-2.result in
    let left : CountedLines → Type 0 =
    λ x. lines_left x.lines c.args.low high (record { place = record { sequence = past; row = 0 }; next = next })
    ≡ lines_between x.lines c.args.low high in
    subst left c.indexed-lines.ensures
    (left_from_start c.indexed-lines.result.now c.args.low high next past c.len-2.ensures
    (c.first_from-next.ensures.first high))

pub returns-clause-cost : goal.returns-clause-cost
returns-clause-cost c =
    let digits = search_of c.indexed-lines.result.now c.args.self.now c.indexed-lines.ensures in
    (c.first_from-next.ensures.cost.0, omega arith)
