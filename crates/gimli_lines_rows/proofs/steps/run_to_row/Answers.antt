use Rattle.std.proofs.Common.{false, true, [], refl, subst}
use Rattle.gimli_lines_rows.specs.ProgramRows.{Path, stays}
use Rattle.gimli_lines_rows.specs.NumericSteps.{rows_at}
use Rattle.gimli_lines_rows.proofs.LineRowSteps.{step_smaller}
use Rattle.gimli_lines_rows.proofs.RowPaths.{path_shows, path_passes, next_step_as}
use Rattle.gimli_lines_rows.proofs.ResumedRows.{row_cleared}
use Rattle.gimli_lines_rows.proofs.StepsAtOnce.{step_at, no_step_at}
use Rattle.gimli_lines_rows.proofs.steps.run_to_row.Goals as goal

pub loop-is_shown-init : goal.loop-is_shown-init
loop-is_shown-init g c = λ takes_files. stays _

pub loop-is_shown-preserved : goal.loop-is_shown-preserved
loop-is_shown-preserved g c =
    let limit = g.R.Offset.ReaderOffset.limit in
    λ takes_files. path_passes (c.loop-is_shown.invariant takes_files)
    (next_step_as limit _ _ _ _ false
    (step_at limit _ _ _ _ _ _ _ _ _ c.in-Some.is c.step_at_once.ensures takes_files) refl c.if-is_shown.false)

pub loop-is_shown-smaller : goal.loop-is_shown-smaller
loop-is_shown-smaller g c =
    let limit = g.R.Offset.ReaderOffset.limit in
    step_smaller limit _ _ _
    (step_at limit _ _ _ _ _ _ _ _ _ c.in-Some.is c.step_at_once.ensures true)

pub returns-then-is_shown : goal.returns-then-is_shown
returns-then-is_shown g c =
    let limit = g.R.Offset.ReaderOffset.limit in
    λ takes_files.
    let e = next_step_as limit _ _ _ _ true
    (step_at limit _ _ _ _ _ _ _ _ _ c.in-Some.is c.step_at_once.ensures takes_files) refl c.if-is_shown.true in
    (path_shows (c.loop-is_shown.invariant takes_files) e, row_cleared limit _ _ e)

pub returns : goal.returns
returns g c =
    let limit = g.R.Offset.ReaderOffset.limit in
    λ takes_files. (
      subst (Path limit (rows_at c.args.header.now takes_files c.args.registers.now c.args.row.now c.args.bytes.now) [])
          (no_step_at limit _ _ _ _ _ _ _ _ c.in_default.is c.step_at_once.ensures takes_files)
          (c.loop-is_shown.invariant takes_files),
      tt,
    )
