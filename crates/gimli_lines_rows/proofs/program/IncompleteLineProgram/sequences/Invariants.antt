use Rattle.gimli_lines_machine.specs.View.{bytes_left}
use Rattle.gimli_lines_rows.specs.RowSequences.{program_rows}
use Rattle.gimli_lines_rows.proofs.SequenceLoops.{FindsSequences}
use Rattle.gimli_lines_rows.proofs.program.IncompleteLineProgram.sequences.Given as goal

-- the sequences so far
abbrev pub invariant-loop-sequences : goal.invariant-loop-sequences
invariant-loop-sequences g l =
    FindsSequences g.R.Offset.ReaderOffset.limit (program_rows l.fn.self) l.rows l.sequences.items

abbrev pub decreases-loop-sequences : goal.decreases-loop-sequences
decreases-loop-sequences g l = bytes_left l.rows.rest
