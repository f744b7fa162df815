use Rattle.std.proofs.Common.{Bool, []}
use Rattle.gimli_lines_machine.specs.View.{bytes_left}
use Rattle.gimli_lines_rows.specs.ProgramRows.{Path}
use Rattle.gimli_lines_rows.specs.NumericSteps.{rows_at}
use Rattle.gimli_lines_rows.proofs.steps.run_to_row.Given as goal

-- no row was shown on the way so far
abbrev pub invariant-loop-is_shown : goal.invariant-loop-is_shown
invariant-loop-is_shown g l = (takes_files : Bool) → Path g.R.Offset.ReaderOffset.limit
    (rows_at l.header takes_files l.fn.registers l.fn.row l.fn.bytes) []
    (rows_at l.header takes_files l.registers l.row l.bytes)

abbrev pub decreases-loop-is_shown : goal.decreases-loop-is_shown
decreases-loop-is_shown g l = bytes_left l.bytes
