use Rattle.std.proofs.Common.{ap, option_map, ◌∙◌}
use Rattle.gimli_lines_rows.specs.InstructionViews.{line_instruction}
use Rattle.gimli_lines_rows.specs.ProgramRows.{RemainingRows}
use Rattle.gimli_lines_rows.proofs.FileDefinitions.{execution_fault}
use Rattle.gimli_lines_rows.proofs.rows.LineRows.try_step.Goals as goal

pub returns-in_err-gives_row-clause-free : goal.returns-in_err-gives_row-clause-free
returns-in_err-gives_row-clause-free g c = λ copies none.
    let same = c.self.view_is in
    execution_fault g.R.Offset.ReaderOffset.limit g.P.LineProgram.takes_files c.args.self.now _ _ _ _ _ _ _ _
    c.from_residual-in_err-gives_row.result
    (c.header.ensures ∙ ap (λ (s : RemainingRows). s.header) same) (ap (λ (s : RemainingRows). s.header) same)
    (ap (λ (s : RemainingRows). s.rest) same) (ap (λ (s : RemainingRows). s.registers) same)
    c.in_ok-instruction.ensures.value
    (ap (option_map (λ p. (line_instruction g.R.Reader.view p.0, p.1))) c.in-Some.is)
    c.in_err-gives_row.ensures.free c.from_residual-in_err-gives_row.ensures.1 none
