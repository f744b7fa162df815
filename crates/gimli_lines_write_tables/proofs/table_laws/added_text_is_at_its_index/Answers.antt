use Rattle.gimli_lines_write_tables.proofs.SectionTexts.{text_at_index}
use Rattle.gimli_lines_write_tables.proofs.table_laws.added_text_is_at_its_index.Goals as goal

pub returns : goal.returns
returns c = text_at_index
