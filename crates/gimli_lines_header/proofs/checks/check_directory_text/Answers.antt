use Rattle.gimli_lines_header.proofs.CheckSteps.{returns_fault}
use Rattle.gimli_lines_header.proofs.TextChecks.{directory_there, directory_refused}
use Rattle.gimli_lines_header.proofs.checks.check_directory_text.Goals as goal

pub returns : goal.returns
returns g c = directory_there _ _ _ c.in_ok-skip_text.ensures

pub returns-in_err-skip_text : goal.returns-in_err-skip_text
returns-in_err-skip_text g c = returns_fault _ c.from_residual.result _ _ c.from_residual.ensures.1
    (directory_refused _ _ c.in_err-skip_text.ensures)
