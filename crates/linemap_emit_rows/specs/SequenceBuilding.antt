-- How a builder of rows adds the sequences of a table.
use Rattle.std.specs.Prelude.{◌≡◌, ℕ, ◌-◌, true, false, List, [], ◌∷◌, ◌++◌}
use Rattle.gimli_lines_write_rows.specs.declared.row.LineRow.{LineRow}
use Rattle.gimli_lines_write_rows.specs.declared.entry.LineEntry.{LineEntry}
use Rattle.gimli_lines_write_rows.specs.declared.entry.LineEntry.TheVariants.{Row, EndSequence}
use Rattle.gimli_lines_write_rows.specs.BuiltRows.{first_row, row_after_row}
use Rattle.gimli_lines_write_rows.specs.RowsBuilding.{BuilderState, with_entry}
use Rattle.linemap_places_laws.specs.TableParts.{RowPart}
use Rattle.linemap_emit_rows.specs.EmittedRows.{emitted_row, RowsFollow}

-- entries after those that were built
abbrev pub with_entries : List LineEntry → BuilderState → BuilderState
with_entries entries b = record b { entries = b.entries ++ entries }

-- with one more row
abbrev pub with_row : LineRow → BuilderState → BuilderState
with_row row b = record (with_entry (Row row) b) { row = row_after_row row }

-- with the end of a sequence, at an offset from its address
abbrev pub with_end : ℕ → BuilderState → BuilderState
with_end offset b =
    record (with_entry (EndSequence offset 0) b) { row = first_row b.rules; in_sequence = false }

-- with the rows of a sequence and its end
abbrev pub with_rows : (ℕ → ℕ) → ℕ → List RowPart → ℕ → BuilderState → BuilderState
with_rows place begin [] end b = with_end (end - begin) b
with_rows place begin (r ∷ rs) end b =
    with_rows place begin rs end (with_row (emitted_row place begin r) b)

-- A sequence is open in which these rows and their end can follow.
pub record IsOpen (place : ℕ → ℕ) (begin : ℕ) (rs : List RowPart) (end : ℕ) (b : BuilderState) :
    Type 0 where
  pub in_sequence : b.in_sequence ≡ true
  pub no_operations : b.row.op_index ≡ 0
  pub rows_follow : RowsFollow b.rules place b.previous begin rs end

-- No sequence is open, and the next row is as at the start of one.
pub record IsIdle (b : BuilderState) : Type 0 where
  pub in_sequence : b.in_sequence ≡ false
  pub previous : b.previous ≡ first_row b.rules
  pub row : b.row ≡ first_row b.rules
