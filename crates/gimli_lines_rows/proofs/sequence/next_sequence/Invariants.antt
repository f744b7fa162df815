use Rattle.std.proofs.Common.{◌≡◌}
use Rattle.gimli_lines_machine.specs.View.{bytes_left}
use Rattle.gimli_lines_rows.proofs.SequenceLoops.{SearchesFrom}
use Rattle.gimli_lines_rows.proofs.sequence.next_sequence.Given as goal

-- rows that end no sequence, so far
abbrev pub invariant-loop-before : goal.invariant-loop-before
invariant-loop-before g l =
    SearchesFrom g.R.Offset.ReaderOffset.limit l.start l.fn.rows l.rows × (l.before ≡ l.fn.rows.rest)

abbrev pub decreases-loop-before : goal.decreases-loop-before
decreases-loop-before g l = bytes_left l.rows.rest
