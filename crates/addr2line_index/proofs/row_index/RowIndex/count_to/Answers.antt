use Rattle.std.proofs.Common.{subst}
use Rattle.addr2line_index.specs.SearchedRows.{IsSearched}
use Rattle.addr2line_index.proofs.RowIndexLemmas.{ascend_parted}
use Rattle.addr2line_index.proofs.row_index.RowIndex.count_to.Goals as goal

pub count_up_to-requires-clause-sorted : goal.count_up_to-requires-clause-sorted
count_up_to-requires-clause-sorted c =
    ascend_parted c.args.address c.in-Ascending.rows.entries (subst IsSearched c.in-Ascending.is c.self.invariant)
