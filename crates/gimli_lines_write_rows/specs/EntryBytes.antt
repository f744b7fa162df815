-- The bytes of a program's entries, and what a call leaves of a writer that it may refuse in the
-- middle.
use Rattle.std.specs.Prelude.{◌≡◌, ◌≢◌, ℕ, ◌+◌, Bool, true, List, [], ◌∷◌, ◌++◌, Result, Ok, Err}
use Rattle.gimli_lines_write_bytes.specs.declared.error.Error.{Error}
use Rattle.gimli_lines_write_bytes.specs.declared.error.Error.TheVariants.{Memory}
use Rattle.gimli_lines_write_bytes.specs.declared.address.Address.{Address}
use Rattle.gimli_lines_write_bytes.specs.OutputBytes.{WriterContents, append_result}
use Rattle.gimli_lines_write_bytes.specs.TheConstants.{DW_LNE_set_address}
use Rattle.gimli_lines_write_bytes.specs.NumberBytes.{address_bytes}
use Rattle.gimli_lines_machine.specs.declared.rules.LineRules.{LineRules}
use Rattle.gimli_lines_write_rows.specs.declared.row.LineRow.{LineRow}
use Rattle.gimli_lines_write_rows.specs.declared.entry.LineEntry.{LineEntry}
use Rattle.gimli_lines_write_rows.specs.declared.entry.LineEntry.TheVariants.{SetAddress, Row, EndSequence}
use Rattle.gimli_lines_write_rows.specs.BuiltRows.{row_at_address, row_after_row, first_row, can_follow, can_place}
use Rattle.gimli_lines_write_rows.specs.RowPieces.{row_piece, end_piece}
use Rattle.gimli_lines_write_rows.specs.LineInstructionBytes.{instructions_bytes}

-- bytes, and others after them; or the first refusal
abbrev pub join_bytes : Result (List ℕ) Error → Result (List ℕ) Error → Result (List ℕ) Error
join_bytes (Ok a) (Ok b) = Ok (a ++ b)
join_bytes (Ok a) (Err e) = Err e
join_bytes (Err e) r = Err e

-- An address that is set (6.2.5.3): a zero byte, the length of what follows, the opcode, and the
-- address.
abbrev pub address_entry : Bool → ℕ → Result ℕ Error → Result (List ℕ) Error
address_entry is_big size number =
    join_bytes (Ok (0 ∷ (1 + size) ∷ DW_LNE_set_address.0 ∷ [])) (address_bytes is_big size number)

-- the bytes of an entry after a row
abbrev pub entry_bytes : (Address → Result ℕ Error) → Bool → LineRules → LineRow → LineEntry
    → Result (List ℕ) Error
entry_bytes address_of is_big rules previous (SetAddress address) =
    address_entry is_big rules.encoding.address_size (address_of address)
entry_bytes address_of is_big rules previous (Row row) =
    Ok (instructions_bytes (row_piece rules previous row))
entry_bytes address_of is_big rules previous (EndSequence offset op_index) =
    Ok (instructions_bytes (end_piece rules previous offset op_index))

-- the row after an entry
abbrev pub next_row : LineRules → LineRow → LineEntry → LineRow
next_row rules previous (SetAddress address) = row_at_address previous
next_row rules previous (Row row) = row_after_row row
next_row rules previous (EndSequence offset op_index) = first_row rules

-- an entry can follow a row
abbrev pub can_come : LineRules → LineRow → LineEntry → Bool
can_come rules previous (SetAddress address) = true
can_come rules previous (Row row) = can_follow rules previous row
can_come rules previous (EndSequence offset op_index) = can_place rules previous offset op_index

-- the bytes of entries
abbrev pub entries_bytes : (Address → Result ℕ Error) → Bool → LineRules → LineRow → List LineEntry
    → Result (List ℕ) Error
entries_bytes address_of is_big rules previous [] = Ok []
entries_bytes address_of is_big rules previous (entry ∷ entries) =
    join_bytes (entry_bytes address_of is_big rules previous entry)
    (entries_bytes address_of is_big rules (next_row rules previous entry) entries)

-- What was written before is where the writer's bytes begin.
pub record Extends (old new : WriterContents) : Type 0 where
  pub more : List ℕ
  pub bytes : new.bytes ≡ old.bytes ++ more
  pub order : new.is_big ≡ old.is_big

-- A write in several steps: it may find no memory, and else is the definition's; refused, it may
-- have written a prefix.
abbrev pub Continues : {A : Type 0} → Result A Error → WriterContents → WriterContents
    → Result (List ℕ) Error → Type 0
Continues (Ok _) old new bytes = append_result bytes old ≡ Ok new
Continues (Err e) old new bytes = (e ≢ Memory → bytes ≡ Err e) × Extends old new
