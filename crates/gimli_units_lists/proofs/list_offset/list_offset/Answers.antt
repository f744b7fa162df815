-- Reading the offset of an index takes no memory.
use Rattle.gimli_core_readers.proofs.MemoryLemmas.{free-refused}
use Rattle.gimli_units_lists.proofs.ListTableMemoryLemmas.{free-table_offset_at}
use Rattle.gimli_units_lists.proofs.list_offset.list_offset.Goals as goal

pub returns-in_err-offset-clause-free : goal.returns-in_err-offset-clause-free
returns-in_err-offset-clause-free g c =
    let count = g.R.Offset.ReaderOffset.count in
    free-refused _ _ _ c.from_residual.ensures.1 c.in_err-offset.ensures
    (free-table_offset_at g.R.Offset.ReaderOffset.limit c.args.format (count c.args.base) (count c.args.index)
    (g.R.Reader.view c.args.section.now))
