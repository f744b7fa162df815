-- The instructions that are written for entries, and what a run of them shows (DWARF 5, 6.2.5).
use Rattle.std.specs.Prelude.{List, [], ◌∷◌}
use Rattle.gimli_lines_write_bytes.specs.Repetition.{Listing}
use Rattle.gimli_lines_write_bytes.specs.declared.address.Address.TheVariants.{Constant, Symbol}
use Rattle.gimli_lines_machine.specs.declared.rules.LineRules.{LineRules}
use Rattle.gimli_lines_machine.specs.declared.registers.Registers.{Registers}
use Rattle.gimli_lines_machine.specs.LineInstructions.{InstructionOf, set_address}
use Rattle.gimli_lines_machine.specs.Runs.{run, shown_rows}
use Rattle.gimli_lines_write_rows.specs.declared.row.LineRow.{LineRow}
use Rattle.gimli_lines_write_rows.specs.declared.instruction.LineInstruction.{LineInstruction}
use Rattle.gimli_lines_write_rows.specs.declared.entry.LineEntry.{LineEntry}
use Rattle.gimli_lines_write_rows.specs.declared.entry.LineEntry.TheVariants.{SetAddress, Row, EndSequence}
use Rattle.gimli_lines_write_rows.specs.BuiltRows.{row_at_address, row_after_row, first_row}
use Rattle.gimli_lines_write_rows.specs.RowPieces.{to_instruction, row_piece, end_piece}

-- the rows that a run shows, and how it ends
abbrev pub shows : {F : Type 0} → LineRules → Registers → List (InstructionOf F)
    → Listing Registers Registers
shows rules r instructions = record {
  items = shown_rows (run rules r instructions).items;
  ending = (run rules r instructions).ending;
}

-- instructions before others
abbrev pub onto : {F : Type 0} → List LineInstruction → List (InstructionOf F)
    → List (InstructionOf F)
onto [] rest = rest
onto (i ∷ instructions) rest = to_instruction i ∷ onto instructions rest

-- the instructions of entries, after a row
unfoldable pub instructions_from : {F : Type 0} → LineRules → LineRow → List LineEntry
    → List (InstructionOf F)
instructions_from rules previous [] = []
instructions_from rules previous (SetAddress (Constant n) ∷ entries) =
    set_address n ∷ instructions_from rules (row_at_address previous) entries
instructions_from rules previous (SetAddress (Symbol _ _) ∷ entries) =
    set_address 0 ∷ instructions_from rules (row_at_address previous) entries
instructions_from rules previous (Row row ∷ entries) =
    onto (row_piece rules previous row) (instructions_from rules (row_after_row row) entries)
instructions_from rules previous (EndSequence offset op_index ∷ entries) =
    onto (end_piece rules previous offset op_index)
    (instructions_from rules (first_row rules) entries)
