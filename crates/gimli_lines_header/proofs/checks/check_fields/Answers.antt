use Rattle.std.proofs.Common.{◌∙◌}
use Rattle.gimli_lines_header.proofs.CheckSteps.{returns_fault}
use Rattle.gimli_lines_header.proofs.HeaderChecks.{fields_checked, means_same}
use Rattle.gimli_lines_header.proofs.ParserChains.{goes_on, stops}
use Rattle.gimli_lines_header.proofs.checks.check_fields.Goals as goal

pub returns : goal.returns
returns g c = λ directory name bounds same.
    means_same _ _ _ _ c.check_files.ensures
    (fields_checked _ directory name bounds c.args.encoding same _
    ∙ goes_on _ _ _ _ c.in_ok-parse_parameters.ensures.value
    ∙ goes_on _ _ _ _ c.in_ok-check_opcodes.ensures ∙ goes_on _ _ _ _ c.in_ok-check_directories.ensures)

pub returns-in_err-parse_parameters : goal.returns-in_err-parse_parameters
returns-in_err-parse_parameters g c = λ directory name bounds same.
    returns_fault _ c.from_residual.result _ _ c.from_residual.ensures.1
    (fields_checked _ directory name bounds c.args.encoding same _
    ∙ stops _ _ _ c.in_err-parse_parameters.ensures.value)

pub returns-in_err-check_opcodes : goal.returns-in_err-check_opcodes
returns-in_err-check_opcodes g c = λ directory name bounds same.
    returns_fault _ c.from_residual-in_err-check_opcodes.result _ _ c.from_residual-in_err-check_opcodes.ensures.1
    (fields_checked _ directory name bounds c.args.encoding same _
    ∙ goes_on _ _ _ _ c.in_ok-parse_parameters.ensures.value ∙ stops _ _ _ c.in_err-check_opcodes.ensures)

pub returns-in_err-check_directories : goal.returns-in_err-check_directories
returns-in_err-check_directories g c = λ directory name bounds same.
    returns_fault _ c.from_residual-in_err-check_directories.result _ _
    c.from_residual-in_err-check_directories.ensures.1
    (fields_checked _ directory name bounds c.args.encoding same _
    ∙ goes_on _ _ _ _ c.in_ok-parse_parameters.ensures.value
    ∙ goes_on _ _ _ _ c.in_ok-check_opcodes.ensures ∙ stops _ _ _ c.in_err-check_directories.ensures)
