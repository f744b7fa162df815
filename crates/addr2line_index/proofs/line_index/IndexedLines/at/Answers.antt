use Rattle.std.proofs.Common.{◌≡◌, ◌∙◌, ap, sym, length, slice_get, arith}
use Rattle.addr2line_index.specs.LineIndexes.{CountedLines}
use Rattle.addr2line_index.specs.LineCursors.{sequences_by_start}
use Rattle.addr2line_index.proofs.SequenceViews.{searched-at, searched-counter, searched-length}
use Rattle.addr2line_index.proofs.line_index.IndexedLines.at.Goals as goal

pub at-requires-clause-within : goal.at-requires-clause-within
at-requires-clause-within c =
    let many : length c.self.inside.sequences.entries ≡ length (sequences_by_start c.args.self.now.lines) =
    searched-length c.self.inside.sequences.entries
    ∙ ap (λ (l : CountedLines). length (sequences_by_start l.lines)) c.self.view_is in
    omega arith

pub returns-clause-sequence : goal.returns-clause-sequence
returns-clause-sequence c =
    ap (λ (l : CountedLines). slice_get (sequences_by_start l.lines) c.args.index) (sym c.self.view_is)
    ∙ searched-at c.self.inside.sequences.entries c.args.index c.at.result.now c.at.ensures.item

pub returns-clause-counter : goal.returns-clause-counter
returns-clause-counter c =
    searched-counter c.self.inside.sequences.counter c.args.index c.self.inside.sequences.entries c.at.result.now
    c.self.invariant.0 c.at.ensures.item
    ∙ ap (λ (l : CountedLines). l.counter) c.self.view_is
