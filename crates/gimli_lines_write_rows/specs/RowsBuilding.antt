-- Rows as they are built: what a builder has, and what its calls make of it.
use Rattle.std.specs.Prelude.{◌≡◌, Bool, true, List, [], ◌∷◌, ◌++◌, Option, Some, None}
use Rattle.gimli_lines_write_bytes.specs.declared.address.Address.{Address}
use Rattle.gimli_lines_machine.specs.declared.rules.LineRules.{LineRules}
use Rattle.gimli_lines_write_rows.specs.declared.row.LineRow.{LineRow}
use Rattle.gimli_lines_write_rows.specs.declared.entry.LineEntry.{LineEntry}
use Rattle.gimli_lines_write_rows.specs.declared.entry.LineEntry.TheVariants.{SetAddress}
use Rattle.gimli_lines_write_rows.specs.BuiltRows.{first_row, row_at_address, follows, row_after_entries}
use Rattle.gimli_lines_write_rows.specs.RowPieces.{IsBuildable}
use Rattle.gimli_lines_write_rows.specs.EntryBytes.{next_row}

-- The entries so far, the row after them, the row that comes next, and whether a sequence is open.
pub record BuilderState : Type 0 where
  pub rules : LineRules
  pub entries : List LineEntry
  pub previous : LineRow
  pub row : LineRow
  pub in_sequence : Bool

-- what holds of every builder
pub record IsBuilderState (rules : LineRules) (entries : List LineEntry) (previous : LineRow) :
    Type 0 where
  pub buildable : IsBuildable rules
  pub in_order : follows rules (first_row rules) entries ≡ true
  pub last_row : row_after_entries rules (first_row rules) entries ≡ previous

-- with an entry after the others
abbrev pub with_entry : LineEntry → BuilderState → BuilderState
with_entry entry b =
    record b { entries = b.entries ++ entry ∷ []; previous = next_row b.rules b.previous entry }

-- with an address set, where the next row is
abbrev pub with_address : Address → BuilderState → BuilderState
with_address address b = record (with_entry (SetAddress address) b) { row = row_at_address b.row }

-- with a sequence begun
abbrev pub with_sequence : Option Address → BuilderState → BuilderState
with_sequence (Some address) b = record (with_address address b) { in_sequence = true }
with_sequence None b = record b { row = row_at_address b.row; in_sequence = true }
