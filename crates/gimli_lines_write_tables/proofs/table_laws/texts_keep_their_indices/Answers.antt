use Rattle.gimli_lines_write_tables.proofs.SectionTexts.{stays}
use Rattle.gimli_lines_write_tables.proofs.table_laws.texts_keep_their_indices.Goals as goal

pub returns : goal.returns
returns c = stays
