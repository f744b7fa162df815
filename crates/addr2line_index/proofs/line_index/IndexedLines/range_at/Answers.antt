use Rattle.std.proofs.Common.{◌≡◌, ◌∙◌, List, ap, sym, length, slice_get, option_map, arith}
use Rattle.std.proofs.lemmas.Option.{slice_get-map}
use Rattle.addr2line_spec.specs.Lines.{range_of}
use Rattle.addr2line_index.specs.declared.sequence_order.OrderedSequence.{OrderedSequence}
use Rattle.addr2line_index.specs.LineIndexes.{CountedLines, sequences_of}
use Rattle.addr2line_index.specs.LineCursors.{sequences_by_start}
use Rattle.addr2line_index.specs.SequenceOrders.{by_start}
use Rattle.addr2line_index.proofs.SequenceOrderLemmas.{by_start-ranges, by_start-length}
use Rattle.addr2line_index.proofs.line_index.IndexedLines.range_at.Goals as goal

pub at-requires-clause-within : goal.at-requires-clause-within
at-requires-clause-within c =
    let many : length c.self.inside.order.entries ≡ length (sequences_by_start c.args.self.now.lines) =
    ap (λ p. length p.entries) c.self.invariant.1
    ∙ by_start-length (sequences_of c.self.inside.sequences.entries)
    ∙ ap (λ (l : CountedLines). length (sequences_by_start l.lines)) c.self.view_is in
    omega arith

pub returns-clause-range : goal.returns-clause-range
returns-clause-range c =
    let i = c.args.index in
    let ss = c.args.self.now.lines.sequences in
    let entries : c.self.inside.order.entries ≡ by_start ss =
    ap (λ p. p.entries) c.self.invariant.1 ∙ ap (λ (l : CountedLines). by_start l.lines.sequences) c.self.view_is in
    sym (slice_get-map range_of (sequences_by_start c.args.self.now.lines) i)
    ∙ ap (λ l. slice_get l i) (sym (by_start-ranges ss))
    ∙ slice_get-map (λ (e : OrderedSequence). e.range) (by_start ss) i
    ∙ ap (λ (es : List OrderedSequence). option_map (λ (e : OrderedSequence). e.range) (slice_get es i)) (sym entries)
    ∙ ap (option_map (λ (e : OrderedSequence). e.range)) c.at.ensures.entry
