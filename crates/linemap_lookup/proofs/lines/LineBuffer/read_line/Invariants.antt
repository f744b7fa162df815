use Rattle.linemap_lookup.proofs.LineParts.{ReadsParts}
use Rattle.linemap_lookup.proofs.lines.LineBuffer.read_line.Given as goal

-- some parts of the line are read
abbrev pub invariant-part : goal.invariant-part
invariant-part g l =
    ReadsParts (g.R.Read.remaining l.fn.reader) (g.R.Read.remaining l.reader) l.fn.self l.self

-- each part takes a try
abbrev pub decreases-part : goal.decreases-part
decreases-part g l = l.self.tries_left
