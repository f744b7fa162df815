use Rattle.std.proofs.Common.{◌≡◌, ◌+◌, ◌∙◌, ap, sym, length, option_map, arith}
use Rattle.std.specs.Prelude.{option_and_then}
use Rattle.addr2line_spec.specs.Choice.{holder}
use Rattle.addr2line_spec.specs.Lines.{Sequence, range_of, row_of, row_at}
use Rattle.addr2line_search.specs.Searches.{digit_count}
use Rattle.addr2line_index.specs.LineIndexes.{CountedSequence, CountedLines, sequences_of, row_probes, place_probes}
use Rattle.addr2line_index.proofs.HolderViews.{counter_of_found, sequence_of_holder, length-sequences_of, map-now, row-now}
use Rattle.addr2line_index.proofs.line_index.IndexedLines.find_row.Goals as goal

pub row_in-requires : goal.row_in-requires
row_in-requires c =
    counter_of_found c.args.probe c.self.inside.sequences.entries c.self.inside.sequences.counter
    c.find-sequence.new.probes.name c.find-sequence.result c.self.invariant.0 c.find-sequence.ensures.holder
    (c.find-sequence.ensures.cost.0 ∙ c.requires.counter ∙ sym (ap (λ (l : CountedLines). l.counter) c.self.view_is))

pub returns-clause-row : goal.returns-clause-row
returns-clause-row c =
    let all = c.self.inside.sequences.entries in
    let a = c.args.probe in
    c.row_in.ensures.row
    ∙ row-now a c.find-sequence.result
    ∙ ap (λ o. option_and_then (λ (s : Sequence). row_of s.rows a) (option_map (λ (s : CountedSequence). s.sequence) o))
    c.find-sequence.ensures.holder
    ∙ ap (option_and_then (λ (s : Sequence). row_of s.rows a)) (sequence_of_holder a all)
    ∙ ap (λ (l : CountedLines). row_at l.lines a) c.self.view_is

pub returns-clause-cost : goal.returns-clause-cost
returns-clause-cost c =
    let all = c.self.inside.sequences.entries in
    let a = c.args.probe in
    let held = holder range_of a (sequences_of all) in
    let found =
    ap row_probes (map-now (λ (s : CountedSequence). s.sequence) c.find-sequence.result
    ∙ ap (option_map (λ (s : CountedSequence). s.sequence)) c.find-sequence.ensures.holder
    ∙ sequence_of_holder a all) in
    let total : digit_count (length all) + 1 + row_probes held ≡ place_probes c.args.self.now.lines a =
    ap (λ m. digit_count m + 1 + row_probes held) (sym (length-sequences_of all))
    ∙ ap (λ (l : CountedLines). place_probes l.lines a) c.self.view_is in
    (c.row_in.ensures.cost.0 ∙ c.find-sequence.ensures.cost.0, omega arith)
