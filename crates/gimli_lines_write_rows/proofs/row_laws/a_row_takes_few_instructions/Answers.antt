use Rattle.gimli_lines_write_rows.proofs.FewInstructions.{length-row_piece}
use Rattle.gimli_lines_write_rows.proofs.row_laws.a_row_takes_few_instructions.Goals as goal

pub returns : goal.returns
returns c = length-row_piece
