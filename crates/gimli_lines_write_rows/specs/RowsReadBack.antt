-- The bytes of a program read back (DWARF 5, 6.2).
use Rattle.std.specs.Prelude.{◌≡◌, ℕ, ◌+◌, ◌++◌, ◌≤◌, Bool, List, [], length, Ok}
use Rattle.gimli_lines_write_bytes.specs.View.{View}
use Rattle.gimli_lines_write_bytes.specs.OutputBytes.{WriterContents}
use Rattle.gimli_lines_machine.specs.declared.rules.LineRules.{LineRules}
use Rattle.gimli_lines_machine.specs.declared.registers.Registers.{Registers}
use Rattle.gimli_lines_machine.specs.LineInstructions.{Instruction}
use Rattle.gimli_lines_machine.specs.Machine.{start}
use Rattle.gimli_lines_machine.specs.Decoding.{instructions}
use Rattle.gimli_lines_write_rows.specs.declared.entry.LineEntry.{LineEntry}
use Rattle.gimli_lines_write_rows.specs.BuiltRows.{first_row, rows_of, IsReadable}
use Rattle.gimli_lines_write_rows.specs.EntryInstructions.{shows}

-- The bytes read as instructions, whatever offsets a reader can hold and however it counts the
-- operands of opcodes that the standard doesn't name; and those run to these rows, none of them
-- refused.
pub record DecodesTo (rules : LineRules) (is_big : Bool) (bytes : List ℕ) (rows : List Registers) :
    Type 0 where
  pub program : List Instruction
  pub parses : (limit : ℕ) (counts : List ℕ) (v : View) → 128 ≤ limit → v.is_big ≡ is_big
      → v.bytes ≡ bytes
      → instructions limit rules counts v
      ≡ record {
        items = program;
        ending =
            Ok (record { bytes = []; is_big = v.is_big; first = v.first + length v.bytes });
      }
  pub ending : Registers
  pub run : shows rules (start rules) program ≡ record { items = rows; ending = Ok ending }

-- Where a reader can follow the addresses, the bytes written from old to new read back as the rows.
abbrev pub EntriesReadBack : LineRules → List LineEntry → WriterContents → WriterContents → Type 0
EntriesReadBack rules entries old new =
    IsReadable rules 0 (first_row rules) entries
    → (more : List ℕ) × (new.bytes ≡ old.bytes ++ more)
    × DecodesTo rules old.is_big more (rows_of rules entries)
