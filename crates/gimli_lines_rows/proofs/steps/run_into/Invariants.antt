use Rattle.std.proofs.Common.{Bool}
use Rattle.gimli_lines_machine.specs.View.{bytes_left}
use Rattle.gimli_lines_rows.specs.NumericSteps.{rows_at}
use Rattle.gimli_lines_rows.proofs.SinkRows.{OnTheWay}
use Rattle.gimli_lines_rows.proofs.steps.run_into.Given as goal

-- the sink has taken the rows so far
abbrev pub invariant-loop-gives_row : goal.invariant-loop-gives_row
invariant-loop-gives_row g l = (takes_files : Bool)
    → OnTheWay g.R.Offset.ReaderOffset.limit g.S.RowSink.form g.S.RowSink.HasTaken
    (rows_at l.header takes_files l.fn.registers l.fn.row l.fn.bytes)
    (rows_at l.header takes_files l.registers l.shown l.bytes) l.fn.sink l.sink

abbrev pub decreases-loop-gives_row : goal.decreases-loop-gives_row
decreases-loop-gives_row g l = bytes_left l.bytes
