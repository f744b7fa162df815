-- The addresses so far, and those of the rows to come, are those of all rows.
use Rattle.std.proofs.Common.{◌≡◌, length}
use Rattle.gimli_lines.specs.ProgramRows.{rows_to_come}
use Rattle.examples.specs.RowAddresses.{row_addresses}
use Rattle.examples.proofs.AddressesRead.{append_to, addresses_of}
use Rattle.examples.proofs.rows.row_addresses.Given as goal

abbrev pub invariant-loop-rows : goal.invariant-loop-rows
invariant-loop-rows g l =
    let limit = g.R.Offset.ReaderOffset.limit in
    append_to l.addresses.items (addresses_of (rows_to_come limit l.rows)) ≡ row_addresses limit l.fn.header

abbrev pub decreases-loop-rows : goal.decreases-loop-rows
decreases-loop-rows g l = length (rows_to_come g.R.Offset.ReaderOffset.limit l.rows)
