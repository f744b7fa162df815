-- Laws of every program that is built.
use Rattle.std.specs.Prelude.{◌≡◌, ◌≤◌, ◌-ℤ◌, ℕ, pos, Result, Ok, Bool, true, nat_le, List, [], length}
use Rattle.gimli_lines_machine.specs.declared.rules.LineRules.{LineRules}
use Rattle.gimli_lines_machine.specs.declared.registers.Registers.{Registers}
use Rattle.gimli_lines_machine.specs.LineInstructions.{DefinedFile}
use Rattle.gimli_lines_machine.specs.Machine.{start}
use Rattle.gimli_lines_write_bytes.specs.declared.error.Error.{Error}
use Rattle.gimli_lines_write_bytes.specs.declared.address.Address.{Address}
use Rattle.gimli_lines_write_bytes.specs.declared.address.Address.TheVariants.{Constant}
use Rattle.gimli_lines_write_rows.specs.declared.entry.LineEntry.{LineEntry}
use Rattle.gimli_lines_write_rows.specs.declared.row.LineRow.{LineRow}
use Rattle.gimli_lines_write_rows.specs.BuiltRows.{first_row, rows_of, follows, operations_between, IsReadable}
use Rattle.gimli_lines_write_rows.specs.RowPieces.{IsBuildable, flags, changes, is_special, line_step, room, row_piece}
use Rattle.gimli_lines_write_rows.specs.EntryInstructions.{shows, instructions_from}
use Rattle.gimli_lines_write_rows.specs.EntryBytes.{entries_bytes}
use Rattle.gimli_lines_write_rows.specs.RowsReadBack.{DecodesTo}

-- the instructions of entries run to exactly their rows, and none of them is refused
abbrev pub ProgramRunsToItsRows : Type 0
ProgramRunsToItsRows = (rules : LineRules) (entries : List LineEntry) → IsBuildable rules
    → follows rules (first_row rules) entries ≡ true
    → IsReadable rules 0 (first_row rules) entries
    → (end : Registers) × (shows {F = DefinedFile} rules (start rules)
    (instructions_from rules (first_row rules) entries)
    ≡ record { items = rows_of rules entries; ending = Ok end })

-- the bytes of entries read back as their rows, where a reader can follow the addresses
abbrev pub ProgramReadsBack : Type 0
ProgramReadsBack =
    (address_of : Address → Result ℕ Error) (rules : LineRules) (entries : List LineEntry)
    (is_big : Bool) (bytes : List ℕ)
    → ((n : ℕ) → address_of (Constant n) ≡ Ok n) → IsBuildable rules
    → follows rules (first_row rules) entries ≡ true
    → IsReadable rules 0 (first_row rules) entries
    → entries_bytes address_of is_big rules (first_row rules) entries ≡ Ok bytes
    → DecodesTo rules is_big bytes (rows_of rules entries)

-- a row takes at most eleven instructions
abbrev pub RowTakesFewInstructions : Type 0
RowTakesFewInstructions =
    (rules : LineRules) (previous row : LineRow) → length (row_piece rules previous row) ≤ 11

-- A row that changes nothing but the line and the address, and by no more than one special opcode
-- can, takes that opcode alone.
abbrev pub RowTakesOneOpcode : Type 0
RowTakesOneOpcode = (rules : LineRules) (previous row : LineRow) → flags row ≡ []
    → changes rules.encoding.version previous row ≡ []
    → is_special rules.line_encoding (pos row.line -ℤ pos previous.line) ≡ true
    → nat_le (operations_between rules previous row.address_offset row.op_index)
    (room rules.line_encoding (line_step rules.line_encoding
    (pos row.line -ℤ pos previous.line))) ≡ true
    → length (row_piece rules previous row) ≡ 1
