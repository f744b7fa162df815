use Rattle.std.proofs.Common.{false, true}
use Rattle.gimli_lines_rows.specs.ProgramRows.{stays}
use Rattle.gimli_lines_rows.proofs.RowPaths.{path_comes, path_shows, path_passes, path_path, next_refused, next_fault, next_none, path_ends, next_step_as, answered_none}
use Rattle.gimli_lines_rows.proofs.ResumedRows.{row_cleared, path_takes_no_file}
use Rattle.gimli_lines_rows.proofs.StepsAtOnce.{run_found, run_none, step_below}
use Rattle.gimli_lines_rows.proofs.rows.LineRows.advance.Goals as goal

pub loop-self-init : goal.loop-self-init
loop-self-init g c = stays _

pub loop-self-preserved : goal.loop-self-preserved
loop-self-preserved g c =
    let limit = g.R.Offset.ReaderOffset.limit in
    path_passes (path_path c.loop-self.invariant
    (run_none limit _ _ _ c.if-run_to_row.false c.run_to_row.ensures))
    (next_step_as limit _ _ _ _ false c.in_ok-is_shown.ensures.step c.in-Some.is c.if-is_shown.false)

pub loop-self-smaller : goal.loop-self-smaller
loop-self-smaller g c =
    let limit = g.R.Offset.ReaderOffset.limit in
    step_below limit _ _ _ false (run_none limit _ _ _ c.if-run_to_row.false c.run_to_row.ensures)
    (next_step_as limit _ _ _ _ false c.in_ok-is_shown.ensures.step c.in-Some.is c.if-is_shown.false)

pub returns-then-run_to_row-clause-next : goal.returns-then-run_to_row-clause-next
returns-then-run_to_row-clause-next g c =
    let limit = g.R.Offset.ReaderOffset.limit in
    path_comes (path_path c.loop-self.invariant
    (run_found limit _ _ _ c.if-run_to_row.true c.run_to_row.ensures).0)

pub returns-then-run_to_row-clause-path : goal.returns-then-run_to_row-clause-path
returns-then-run_to_row-clause-path g c =
    let found = run_found g.R.Offset.ReaderOffset.limit _ _ _ c.if-run_to_row.true c.run_to_row.ensures in
    (path_path c.loop-self.invariant found.0, found.1)

pub returns-then-is_shown-clause-next : goal.returns-then-is_shown-clause-next
returns-then-is_shown-clause-next g c =
    let limit = g.R.Offset.ReaderOffset.limit in
    path_comes (path_shows (path_path c.loop-self.invariant
    (run_none limit _ _ _ c.if-run_to_row.false c.run_to_row.ensures))
    (next_step_as limit _ _ _ _ true c.in_ok-is_shown.ensures.step c.in-Some.is c.if-is_shown.true))

pub returns-then-is_shown-clause-path : goal.returns-then-is_shown-clause-path
returns-then-is_shown-clause-path g c =
    let limit = g.R.Offset.ReaderOffset.limit in
    let e = next_step_as limit _ _ _ _ true c.in_ok-is_shown.ensures.step c.in-Some.is c.if-is_shown.true in (
      path_shows (path_path c.loop-self.invariant
          (run_none limit _ _ _ c.if-run_to_row.false c.run_to_row.ensures)) e,
      row_cleared limit _ _ e,
    )

pub returns-in_default-clause-next : goal.returns-in_default-clause-next
returns-in_default-clause-next g c =
    let limit = g.R.Offset.ReaderOffset.limit in
    next_none limit _ _ _ (path_path c.loop-self.invariant
    (run_none limit _ _ _ c.if-run_to_row.false c.run_to_row.ensures))
    (answered_none limit _ _ _ c.in_ok-is_shown.ensures.step c.in_default.is)

pub returns-in_default-clause-path : goal.returns-in_default-clause-path
returns-in_default-clause-path g c =
    let limit = g.R.Offset.ReaderOffset.limit in
    path_ends limit _ _ _ (path_path c.loop-self.invariant
    (run_none limit _ _ _ c.if-run_to_row.false c.run_to_row.ensures))
    (answered_none limit _ _ _ c.in_ok-is_shown.ensures.step c.in_default.is)

pub returns-in_err-is_shown-clause-next : goal.returns-in_err-is_shown-clause-next
returns-in_err-is_shown-clause-next g c =
    let limit = g.R.Offset.ReaderOffset.limit in
    next_refused limit c.from_residual.result _ _ _ _ c.from_residual.ensures.1
    (path_path c.loop-self.invariant (run_none limit _ _ _ c.if-run_to_row.false c.run_to_row.ensures))
    c.in_err-is_shown.ensures.step

pub returns-in_err-is_shown-clause-free : goal.returns-in_err-is_shown-clause-free
returns-in_err-is_shown-clause-free g c = λ copies none.
    let limit = g.R.Offset.ReaderOffset.limit in
    let way =
    path_path c.loop-self.invariant (run_none limit _ _ _ c.if-run_to_row.false c.run_to_row.ensures) in
    next_fault limit c.from_residual.result _ _ _ c.from_residual.ensures.1 way
    (c.in_err-is_shown.ensures.free copies (path_takes_no_file g.P.LineProgram.takes_files way none))
