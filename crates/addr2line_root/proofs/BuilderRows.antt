-- What giving all rows to a builder makes of it.
use Rattle.std.proofs.Common.{◌≡◌, ℕ, List, Result, Ok, Err}
use Rattle.gimli_lines_rows.specs.Error.{Error}
use Rattle.gimli_lines_rows.specs.ProgramRows.{RemainingRows}
use Rattle.gimli_lines_rows.specs.RowSinks.{GivesRows}
use Rattle.addr2line_index.specs.Lines.{ProgramRow}
use Rattle.addr2line_index.specs.PartialLines.{PartialLines, partial_lines}
use Rattle.addr2line_index.specs.UnitLines.{program_row}
use Rattle.addr2line_root.specs.LineProgramRuns.{AddsRows}

-- a sink that is a builder has taken the rows that the builder is made of
pub rows_added : {A S : Type 0} (limit : ℕ) (r : Result A Error) (old new : RemainingRows)
    (builder : S → PartialLines) (before after : S)
    → GivesRows limit program_row (λ (s : S) (rows : List ProgramRow). builder s ≡ partial_lines rows) r old new
    before after → AddsRows limit r old new (builder before) (builder after)
rows_added limit (Ok x) old new builder before after given = (given.0, given.2, given.4, given.1)
rows_added limit (Err e) old new builder before after given = λ ne. (given.0, (given.2 ne).0)
