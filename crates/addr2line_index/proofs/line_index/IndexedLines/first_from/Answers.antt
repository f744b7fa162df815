use Rattle.std.proofs.Common.{◌≡◌, ◌∙◌, List, ap, sym, length, drop, subst, arith}
use Rattle.std.specs.List.{prefix_len}
use Rattle.std.specs.List.Sorted.{IsPartitionedBy}
use Rattle.addr2line_search.specs.Searches.{digit_count}
use Rattle.addr2line_index.specs.declared.sequence_order.OrderedSequence.{OrderedSequence}
use Rattle.addr2line_index.specs.LineIndexes.{CountedLines, sequences_of}
use Rattle.addr2line_index.specs.LineCursors.{sequences_by_start, stretches_among}
use Rattle.addr2line_index.specs.SequenceOrders.{by_start, bounded_by}
use Rattle.addr2line_index.proofs.SequenceOrderLemmas.{by_start-parted, by_start-length}
use Rattle.addr2line_index.proofs.SequenceWalks.{walk_begins}
use Rattle.addr2line_index.proofs.line_index.IndexedLines.first_from.Goals as goal

pub count_up_to-requires-clause-sorted : goal.count_up_to-requires-clause-sorted
count_up_to-requires-clause-sorted c =
    subst (IsPartitionedBy (bounded_by c.args.low)) (sym (ap (λ p. p.entries) c.self.invariant.1))
    (by_start-parted c.args.low (sequences_of c.self.inside.sequences.entries))

pub returns-clause-first : goal.returns-clause-first
returns-clause-first c high =
    let low = c.args.low in
    let lines = c.args.self.now.lines in
    let entries : c.self.inside.order.entries ≡ by_start lines.sequences =
    ap (λ p. p.entries) c.self.invariant.1 ∙ ap (λ (l : CountedLines). by_start l.lines.sequences) c.self.view_is in
    ap (λ n. stretches_among lines.files low high (drop n (sequences_by_start lines)))
    (c.count_up_to.ensures.count ∙ ap (λ (es : List OrderedSequence). prefix_len (bounded_by low) es) entries)
    ∙ walk_begins low high lines.files lines.sequences

pub returns-clause-cost : goal.returns-clause-cost
returns-clause-cost c =
    let many : length c.self.inside.order.entries ≡ length (sequences_by_start c.args.self.now.lines) =
    ap (λ p. length p.entries) c.self.invariant.1
    ∙ by_start-length (sequences_of c.self.inside.sequences.entries)
    ∙ ap (λ (l : CountedLines). length (sequences_by_start l.lines)) c.self.view_is in
    let digits = ap digit_count many in
    (c.count_up_to.ensures.cost.0, omega arith)
