use Rattle.std.proofs.Common.{◌≡◌, ◌-◌, ◌∙◌, suc, ap, sym, arith}
use Rattle.addr2line_spec.specs.Lines.{rows_to, row_of}
use Rattle.addr2line_index.specs.LineIndexes.{CountedSequence}
use Rattle.addr2line_index.proofs.RowIndexLemmas.{rows_to-within, row_of-some}
use Rattle.addr2line_index.proofs.sequence_index.SequenceIndex.row_of.Goals as goal

pub at-requires-clause-within : goal.at-requires-clause-within
at-requires-clause-within c =
    let within = rows_to-within c.args.address c.self.inside.rows.entries in
    omega (arith, c.count_to-count.ensures.count)

pub returns-clause-row : goal.returns-clause-row
returns-clause-row c =
    let a = c.args.address in
    let rows = c.self.inside.rows.entries in
    let n = c.count_to-count.result in
    let some : rows_to a rows ≡ suc (n - 1) = omega (arith, c.count_to-count.ensures.count) in
    sym c.at.ensures.row
    ∙ sym (row_of-some a (n - 1) rows some)
    ∙ ap (λ (s : CountedSequence). row_of s.sequence.rows a) c.self.view_is
