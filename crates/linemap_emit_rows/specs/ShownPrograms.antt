-- What a reader sees of a program that is built of entries.
use Rattle.std.specs.Prelude.{◌≡◌, ℕ, ◌≤◌, true, List, [], map, None, Ok}
use Rattle.linemap_emit_parts.specs.LineHeaders.{LineHeader}
use Rattle.gimli_lines_write_rows.specs.Runs.{shown_rows, files_of as defined}
use Rattle.gimli_lines_write_rows.specs.NumberBytes.{constant_of}
use Rattle.gimli_lines_write_rows.specs.declared.entry.LineEntry.{LineEntry}
use Rattle.gimli_lines_write_rows.specs.BuiltRows.{first_row, rows_of, follows, IsReadable}
use Rattle.gimli_lines_write_rows.specs.RowPieces.{IsBuildable}
use Rattle.gimli_lines_write_rows.specs.EntryBytes.{entries_bytes}
use Rattle.linemap_places_laws.specs.Lines.{ProgramRow}
use Rattle.linemap_places_laws.specs.UnitLines.{rules_of, fault_of_program, run_of_program, program_row}

-- A program is read without a fault, shows these rows, and defines no files.
pub record ShowsRows (limit : ℕ) (h : LineHeader) (rows : List ProgramRow) : Type 0 where
  pub has_no_fault : fault_of_program limit h ≡ None
  pub rows_are : map program_row (shown_rows (run_of_program limit h).items) ≡ rows
  pub defines_none : defined (run_of_program limit h).items ≡ []

-- The bytes of entries that can be built and read show the rows of the entries, after a header.
abbrev pub EntriesShow : Type 0
EntriesShow =
    (limit : ℕ) (h : LineHeader) (entries : List LineEntry)
    → 128 ≤ limit → IsBuildable (rules_of h) → follows (rules_of h) (first_row (rules_of h)) entries
    ≡ true → IsReadable (rules_of h) 0 (first_row (rules_of h)) entries
    → entries_bytes constant_of h.program.is_big (rules_of h) (first_row (rules_of h)) entries
    ≡ Ok h.program.bytes
    → ShowsRows limit h (map program_row (rows_of (rules_of h) entries))
