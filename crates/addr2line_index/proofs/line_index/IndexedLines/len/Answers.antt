use Rattle.std.proofs.Common.{◌∙◌, ap, length}
use Rattle.addr2line_index.specs.LineIndexes.{CountedLines}
use Rattle.addr2line_index.specs.LineCursors.{sequences_by_start}
use Rattle.addr2line_index.proofs.SequenceViews.{searched-length}
use Rattle.addr2line_index.proofs.line_index.IndexedLines.len.Goals as goal

pub returns : goal.returns
returns c =
    c.len.ensures
    ∙ searched-length c.self.inside.sequences.entries
    ∙ ap (λ (l : CountedLines). length (sequences_by_start l.lines)) c.self.view_is
