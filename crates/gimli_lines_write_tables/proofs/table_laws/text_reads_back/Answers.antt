use Rattle.gimli_lines_write_tables.proofs.SectionTexts.{read_again}
use Rattle.gimli_lines_write_tables.proofs.table_laws.text_reads_back.Goals as goal

pub returns : goal.returns
returns c = read_again
