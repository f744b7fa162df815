use Rattle.gimli_lines_write_rows.proofs.FewInstructions.{row_piece-one}
use Rattle.gimli_lines_write_rows.proofs.row_laws.a_row_takes_one_opcode.Goals as goal

pub returns : goal.returns
returns c = row_piece-one
