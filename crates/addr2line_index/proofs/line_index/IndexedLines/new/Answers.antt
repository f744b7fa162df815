use Rattle.std.proofs.Common.{◌≡◌, ◌∙◌, ℕ, List, ap, sym, map, subst}
use Rattle.std.specs.List.{AllByRecursion}
use Rattle.std.specs.String.{string_bytes}
use Rattle.addr2line_spec.specs.Lines.{Sequence}
use Rattle.addr2line_search.specs.ProbedLists.{ProbedList}
use Rattle.addr2line_index.specs.declared.sequence_order.OrderedSequence.{OrderedSequence}
use Rattle.addr2line_index.specs.LineIndexes.{CountedSequence, CountedLines, counted_sequence, sequences_of}
use Rattle.addr2line_index.specs.SequenceOrders.{by_start}
use Rattle.addr2line_index.proofs.HolderViews.{sequences_of-counted, all_counted}
use Rattle.addr2line_index.proofs.line_index.IndexedLines.new.Goals as goal

pub invariant_of-result : goal.invariant_of-result
invariant_of-result c =
    let index = c.in_ok-new.field-0 in
    let name = c.args.probes.now.name in
    let ss = c.args.lines.sequences in
    let parts = c.into_parts-sequences.ensures in
    let list : List OrderedSequence → ℕ → ProbedList OrderedSequence = λ es n. record { entries = es; counter = n } in
    let counter : index.counter ≡ name = ap (λ i. i.counter) c.in_ok-new.ensures.ok in
    let entries : index.entries ≡ map (counted_sequence name) ss =
    ap (λ i. i.entries) c.in_ok-new.ensures.ok
    ∙ c.in_ok-counted.ensures.ok
    ∙ ap (map (counted_sequence name)) parts.sequences in
    let sequences : sequences_of index.entries ≡ ss = ap sequences_of entries ∙ sequences_of-counted name ss in (
      subst (λ (l : List CountedSequence). AllByRecursion (λ (s : CountedSequence). s.counter ≡ index.counter) l)
          (sym entries)
          (subst (λ n.
          AllByRecursion (λ (s : CountedSequence). s.counter ≡ n) (map (counted_sequence name) ss)) (sym counter)
          (all_counted name ss)),
      c.new-2.ensures
          ∙ ap (λ es. list es name)
          (c.in_ok-order.ensures.ok
          ∙ ap by_start (c.as_slice.ensures.value ∙ parts.sequences ∙ sym sequences))
          ∙ ap (list (by_start (sequences_of index.entries))) (sym counter),
    )

pub returns-clause-ok : goal.returns-clause-ok
returns-clause-ok c =
    let index = c.in_ok-new.field-0 in
    let name = c.args.probes.now.name in
    let ss = c.args.lines.sequences in
    let parts = c.into_parts-sequences.ensures in
    let made : List Sequence → List (List ℕ) → ℕ → CountedLines =
    λ l files n. record { lines = record { sequences = l; files = files }; counter = n } in
    let counter : index.counter ≡ name = ap (λ i. i.counter) c.in_ok-new.ensures.ok in
    let entries : index.entries ≡ map (counted_sequence name) ss =
    ap (λ i. i.entries) c.in_ok-new.ensures.ok
    ∙ c.in_ok-counted.ensures.ok
    ∙ ap (map (counted_sequence name)) parts.sequences in
    let sequences : sequences_of index.entries ≡ ss = ap sequences_of entries ∙ sequences_of-counted name ss in
    ap (λ l. made l (map string_bytes c.into_parts-sequences.result.1.items) index.counter) sequences
    ∙ ap (λ files. made ss files index.counter) parts.files
    ∙ ap (made ss c.args.lines.files) counter
