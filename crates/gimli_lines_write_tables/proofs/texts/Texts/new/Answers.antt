use Rattle.gimli_lines_write_tables.proofs.TextTableLemmas.{text_table-none}
use Rattle.gimli_lines_write_tables.proofs.texts.Texts.new.Goals as goal

pub invariant_of-result : goal.invariant_of-result
invariant_of-result c = rw (c.new.ensures.empty, c.new-2.ensures.items) text_table-none
