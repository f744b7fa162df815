use Rattle.linemap_lookup.proofs.LineRuns.{AnswersSoFar}
use Rattle.linemap_lookup.proofs.engine.Engine.write_lines.Given as goal

-- the lines that are read so far are answered
abbrev pub invariant-line : goal.invariant-line
invariant-line g l =
    AnswersSoFar g.S.SplitSource.answers l.question.options.now l.question.section
    (g.R.Read.remaining l.fn.lines) (g.R.Read.remaining l.lines) l.buffer
    (record { file = l.fn.self.loader.file; source = l.fn.source })
    (record { file = l.self.loader.file; source = l.source })
    (record { out = g.O.Write.contents l.fn.out; err = g.E.Write.contents l.fn.err })
    (record { out = g.O.Write.contents l.out; err = g.E.Write.contents l.err }) l.fn.ended l.ended

-- each line takes a try
abbrev pub decreases-line : goal.decreases-line
decreases-line g l = l.buffer.tries_left
