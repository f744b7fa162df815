use Rattle.std.proofs.Common.{[]}
use Rattle.gimli_lines_machine.specs.View.{bytes_left}
use Rattle.gimli_lines_rows.specs.ProgramRows.{Path}
use Rattle.gimli_lines_rows.proofs.rows.LineRows.advance.Given as goal

-- no row was shown on the way so far
abbrev pub invariant-loop-self : goal.invariant-loop-self
invariant-loop-self g l = Path g.R.Offset.ReaderOffset.limit l.fn.self [] l.self

abbrev pub decreases-loop-self : goal.decreases-loop-self
decreases-loop-self g l = bytes_left l.self.rest
