use Rattle.gimli_lines_machine.specs.View.{bytes_left}
use Rattle.gimli_lines_rows.proofs.SinkRows.{GivenSoFar}
use Rattle.gimli_lines_rows.proofs.rows.LineRows.run_all.Given as goal

-- the sink has taken the rows so far
abbrev pub invariant-loop-self : goal.invariant-loop-self
invariant-loop-self g l = GivenSoFar g.R.Offset.ReaderOffset.limit g.S.RowSink.form g.S.RowSink.HasTaken
    l.fn.self l.self l.fn.sink l.sink

abbrev pub decreases-loop-self : goal.decreases-loop-self
decreases-loop-self g l = bytes_left l.self.rest
