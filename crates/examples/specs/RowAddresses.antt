-- The addresses of the rows of a line number program.
use Rattle.std.specs.Prelude.{ℕ, List, Result, Ok}
use Rattle.gimli_lines.specs.Results.{and_then, each}
use Rattle.gimli_lines.specs.Error.{Error}
use Rattle.gimli_lines.specs.LineHeaders.{LineHeader}
use Rattle.gimli_lines.specs.ProgramRows.{Row, rows_to_come}
use Rattle.gimli_lines.specs.RowSequences.{program_rows}

-- the address of a row, or the fault that ends the rows
abbrev pub row_address : Result Row Error → Result ℕ Error
row_address row = and_then row (λ r. Ok r.registers.address)

-- the addresses of all rows, or the fault that ends them
abbrev pub row_addresses : ℕ → LineHeader → Result (List ℕ) Error
row_addresses limit header = each row_address (rows_to_come limit (program_rows header))
