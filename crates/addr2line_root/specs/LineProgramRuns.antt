-- What running a line number program makes of what is left of its rows, and of a builder of lines
-- (DWARF 5, 6.2.5).
use Rattle.std.specs.Prelude.{◌≡◌, ◌≢◌, ℕ, List, [], ◌∷◌, ◌++◌, map, Some, None, Result, Ok, Err}
use Rattle.gimli_lines_rows.specs.Error.{Error}
use Rattle.gimli_lines_rows.specs.Error.TheVariants.{Memory}
use Rattle.gimli_lines_rows.specs.LineHeaders.{LineHeader}
use Rattle.gimli_lines_rows.specs.Runs.{shown_rows}
use Rattle.gimli_lines_rows.specs.Repetition.{answer}
use Rattle.gimli_lines_rows.specs.ProgramRows.{Row, RemainingRows, rows_to_come}
use Rattle.gimli_lines_rows.specs.RowSinks.{last_header}
use Rattle.addr2line_index.specs.Lines.{ProgramRow}
use Rattle.addr2line_index.specs.PartialLines.{PartialLines, partial_lines}
use Rattle.addr2line_index.specs.UnitLines.{program_row, run_of_program, fault_of_program, with_defined_files}

-- a builder was made of some rows, and is made of these and more
abbrev pub Adds : PartialLines → PartialLines → List ProgramRow → Type 0
Adds old new more =
    (rows : List ProgramRow) → old ≡ partial_lines rows → new ≡ partial_lines (rows ++ more)

-- a row under its header, as lookups see it
abbrev pub shown_row : Row → ProgramRow
shown_row r = program_row r.registers

-- All rows that were to come are added, and their header is after all instructions; else the fault
-- that ends the rows is answered, or out of memory.
abbrev pub AddsRows : {A : Type 0} → ℕ → Result A Error → RemainingRows → RemainingRows
    → PartialLines
    → PartialLines → Type 0
AddsRows limit (Ok x) old new before after =
    (rows : List Row) × (rows_to_come limit old ≡ map answer rows)
    × (last_header limit old ≡ new.header) × Adds before after (map shown_row rows)
AddsRows limit (Err e) old new before after =
    e ≢ Memory → (rows : List Row) × (rows_to_come limit old ≡ map answer rows ++ Err e ∷ [])

-- A program without a fault: its rows are added, and the header has the files that it defines. Else
-- its fault is answered, or out of memory.
abbrev pub RunsProgram : ℕ → Result RemainingRows Error → LineHeader → PartialLines → PartialLines
    → Type 0
RunsProgram limit (Ok rows) h before after =
    (fault_of_program limit h ≡ None) × (rows.header ≡ with_defined_files limit h)
    × Adds before after (map program_row (shown_rows (run_of_program limit h).items))
RunsProgram limit (Err e) h before after = e ≢ Memory → fault_of_program limit h ≡ Some e
