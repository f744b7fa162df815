use Rattle.std.proofs.Common.{◌∙◌}
use Rattle.gimli_lines_header.proofs.CheckSteps.{returns_fault}
use Rattle.gimli_lines_header.proofs.ParserChains.{goes_on, stops}
use Rattle.gimli_lines_header.proofs.TextChecks.{file_none, file_some, file_refused}
use Rattle.gimli_lines_header.proofs.checks.check_file_text.Goals as goal

pub returns-in_err-skip_text : goal.returns-in_err-skip_text
returns-in_err-skip_text g c = returns_fault _ c.from_residual.result _ _ c.from_residual.ensures.1
    (file_refused _ _ c.in_err-skip_text.ensures)

pub returns-then-branch-eq0 : goal.returns-then-branch-eq0
returns-then-branch-eq0 g c = file_none _ _ _ c.if-branch-eq0.true c.in_ok-skip_text.ensures

pub returns : goal.returns
returns g c =
    file_some _ _ _ c.if-branch-eq0.false c.in_ok-skip_text.ensures
    ∙ goes_on _ _ _ _ c.in_ok-read_number.ensures
    ∙ goes_on _ _ _ _ c.in_ok-read_number-2.ensures
    ∙ goes_on _ _ _ _ c.in_ok-read_number-3.ensures

pub returns-in_err-read_number : goal.returns-in_err-read_number
returns-in_err-read_number g c =
    returns_fault _ c.from_residual-in_err-read_number.result _ _ c.from_residual-in_err-read_number.ensures.1
    (file_some _ _ _ c.if-branch-eq0.false c.in_ok-skip_text.ensures
    ∙ stops _ _ _ c.in_err-read_number.ensures.0)

pub returns-in_err-read_number-2 : goal.returns-in_err-read_number-2
returns-in_err-read_number-2 g c =
    returns_fault _ c.from_residual-in_err-read_number-2.result _ _ c.from_residual-in_err-read_number-2.ensures.1
    (file_some _ _ _ c.if-branch-eq0.false c.in_ok-skip_text.ensures
    ∙ goes_on _ _ _ _ c.in_ok-read_number.ensures
    ∙ stops _ _ _ c.in_err-read_number-2.ensures.0)

pub returns-in_err-read_number-3 : goal.returns-in_err-read_number-3
returns-in_err-read_number-3 g c =
    returns_fault _ c.from_residual-in_err-read_number-3.result _ _ c.from_residual-in_err-read_number-3.ensures.1
    (file_some _ _ _ c.if-branch-eq0.false c.in_ok-skip_text.ensures
    ∙ goes_on _ _ _ _ c.in_ok-read_number.ensures
    ∙ goes_on _ _ _ _ c.in_ok-read_number-2.ensures
    ∙ stops _ _ _ c.in_err-read_number-3.ensures.0)
