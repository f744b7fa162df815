use Rattle.gimli_lines_write_rows.proofs.RowsDecoding.{bytes_read}
use Rattle.gimli_lines_write_rows.proofs.row_laws.program_reads_back.Goals as goal

pub returns : goal.returns
returns c = λ address_of rules entries is_big bytes constants can_build f readable.
    bytes_read rules can_build entries f readable address_of constants is_big bytes
