-- The greatest addresses so far, with those of the rows that are left, are the whole.
use Rattle.std.proofs.Common.{◌≡◌, ◌++◌, length}
use Rattle.addr2line_index.specs.RowIndexes.{greatest_after}
use Rattle.addr2line_index.proofs.row_index.greatest_addresses.Given as goal

abbrev pub invariant-loop-left : goal.invariant-loop-left
invariant-loop-left l = l.all.items ++ greatest_after l.greatest l.left ≡ greatest_after 0 l.rows

abbrev pub decreases-loop-left : goal.decreases-loop-left
decreases-loop-left l = length l.left
