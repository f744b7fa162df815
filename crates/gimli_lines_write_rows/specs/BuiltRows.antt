-- Rows of a program that is built, as the registers that show them (DWARF 5, 6.2.2).
use Rattle.std.specs.Prelude.{◌≡◌, ℕ, ◌+◌, ◌-◌, ◌*◌, ◌/◌, ◌%◌, ◌^◌, ◌<◌, ◌≤◌, ◌==◌, ◌&&◌, nat_lt, nat_le, Bool, true, false, List, [], ◌∷◌, if◌then◌else◌}
use Rattle.gimli_lines_machine.specs.Addresses.{is_tombstone}
use Rattle.gimli_lines_write_bytes.specs.declared.address.Address.TheVariants.{Constant, Symbol}
use Rattle.gimli_lines_machine.specs.declared.rules.LineRules.{LineRules}
use Rattle.gimli_lines_machine.specs.declared.registers.Registers.{Registers}
use Rattle.gimli_lines_write_rows.specs.declared.row.LineRow.{LineRow}
use Rattle.gimli_lines_write_rows.specs.declared.entry.LineEntry.{LineEntry}
use Rattle.gimli_lines_write_rows.specs.declared.entry.LineEntry.TheVariants.{SetAddress, Row, EndSequence}

-- the number by which rows name a file: up to version 4 files count from 1 on (6.2.4)
abbrev pub raw_file : ℕ → ℕ → ℕ
raw_file version place = if nat_le version 4 then (place + 1) % 2 ^ 64 else place

-- the row at the start of a sequence: file 1, whichever place that is
abbrev pub first_row : LineRules → LineRow
first_row rules = record {
  address_offset = 0;
  op_index = 0;
  file = record { 0 = if nat_le rules.encoding.version 4 then 0 else 1 };
  line = 1;
  column = 0;
  discriminator = 0;
  is_statement = rules.line_encoding.default_is_stmt;
  basic_block = false;
  prologue_end = false;
  epilogue_begin = false;
  isa = 0;
}

-- after a row: four fields hold for one row alone
abbrev pub row_after_row : LineRow → LineRow
row_after_row row = record row {
  discriminator = 0;
  basic_block = false;
  prologue_end = false;
  epilogue_begin = false;
}

-- at the address that was set
abbrev pub row_at_address : LineRow → LineRow
row_at_address row = record row { address_offset = 0; op_index = 0 }

-- the registers that show a row whose offset counts from an address
abbrev pub registers_of_row : LineRules → ℕ → LineRow → Registers
registers_of_row rules address row = record {
  address = address + row.address_offset;
  op_index = row.op_index;
  file = raw_file rules.encoding.version row.file.0;
  line = row.line;
  column = row.column;
  is_stmt = row.is_statement;
  basic_block = row.basic_block;
  end_sequence = false;
  prologue_end = row.prologue_end;
  epilogue_begin = row.epilogue_begin;
  isa = row.isa;
  discriminator = row.discriminator;
  is_hidden = false;
}

-- the registers that show the end of a sequence
abbrev pub registers_of_end : LineRules → ℕ → LineRow → ℕ → ℕ → Registers
registers_of_end rules address previous offset op_index =
    record (registers_of_row rules address
    (record previous { address_offset = offset; op_index = op_index })) { end_sequence = true }

-- The rows of entries, after a row whose offset counts from an address. An address that isn't known
-- counts as 0.
abbrev pub rows_from : LineRules → ℕ → LineRow → List LineEntry → List Registers
rows_from rules address previous [] = []
rows_from rules address previous (SetAddress (Constant n) ∷ entries) =
    rows_from rules n (row_at_address previous) entries
rows_from rules address previous (SetAddress (Symbol _ _) ∷ entries) =
    rows_from rules 0 (row_at_address previous) entries
rows_from rules address previous (Row row ∷ entries) =
    registers_of_row rules address row ∷ rows_from rules address (row_after_row row) entries
rows_from rules address previous (EndSequence offset op_index ∷ entries) =
    registers_of_end rules address previous offset op_index
    ∷ rows_from rules 0 (first_row rules) entries

-- the rows of a program
abbrev pub rows_of : LineRules → List LineEntry → List Registers
rows_of rules entries = rows_from rules 0 (first_row rules) entries

-- ---- what a reader can follow

-- an address of the size
abbrev pub FitsSize : LineRules → ℕ → Type 0
FitsSize rules address = address < 2 ^ (8 * rules.encoding.address_size)

-- Addresses that are set are known, aren't tombstones and don't go back in their sequence;
-- those of rows and ends fit the address size.
abbrev pub IsReadable : LineRules → ℕ → LineRow → List LineEntry → Type 0
IsReadable rules address previous [] = Unit {0}
IsReadable rules address previous (SetAddress (Constant n) ∷ entries) =
    (address + previous.address_offset ≤ n) × (is_tombstone rules.encoding.address_size n ≡ false)
    × IsReadable rules n (row_at_address previous) entries
IsReadable rules address previous (SetAddress (Symbol _ _) ∷ entries) = ⊥
IsReadable rules address previous (Row row ∷ entries) =
    FitsSize rules (address + row.address_offset)
    × IsReadable rules address (row_after_row row) entries
IsReadable rules address previous (EndSequence offset op_index ∷ entries) =
    FitsSize rules (address + offset) × IsReadable rules 0 (first_row rules) entries

-- ---- what a builder asks

-- how many operations lie between a row and a place after it
abbrev pub operations_to : LineRules → LineRow → ℕ → ℕ → ℕ
operations_to rules previous offset op_index =
    (offset - previous.address_offset) / rules.line_encoding.minimum_instruction_length
    * rules.line_encoding.maximum_operations_per_instruction + op_index

-- and how many of them are after the row's own operation
abbrev pub operations_between : LineRules → LineRow → ℕ → ℕ → ℕ
operations_between rules previous offset op_index =
    operations_to rules previous offset op_index - previous.op_index

-- A place that can follow a row: it doesn't go back, its offset is one of an instruction, its
-- operation is one of the instruction, and the operations between fit 64 bits.
abbrev pub can_place : LineRules → LineRow → ℕ → ℕ → Bool
can_place rules previous offset op_index =
    nat_le previous.address_offset offset
    && (offset % rules.line_encoding.minimum_instruction_length == 0)
    && nat_lt op_index rules.line_encoding.maximum_operations_per_instruction
    && nat_le previous.op_index (operations_to rules previous offset op_index)
    && nat_lt (operations_to rules previous offset op_index) (2 ^ 64)

-- the numbers of a row that are written as they are have 64 bits
unfoldable pub are_words : LineRow → Bool
are_words row = nat_lt row.file.0 (2 ^ 64) && nat_lt row.column (2 ^ 64) && nat_lt row.isa (2 ^ 64)
    && nat_lt row.discriminator (2 ^ 64)

-- and its line is one of a signed number of 64 bits, as the differences of lines are
abbrev pub can_show : LineRow → Bool
can_show row = nat_lt row.line (2 ^ 63) && are_words row

-- a row that can follow another one
abbrev pub can_follow : LineRules → LineRow → LineRow → Bool
can_follow rules previous row =
    can_place rules previous row.address_offset row.op_index && can_show row

-- each row and end can follow what comes before it
abbrev pub follows : LineRules → LineRow → List LineEntry → Bool
follows rules previous [] = true
follows rules previous (SetAddress _ ∷ entries) = follows rules (row_at_address previous) entries
follows rules previous (Row row ∷ entries) =
    can_follow rules previous row && follows rules (row_after_row row) entries
follows rules previous (EndSequence offset op_index ∷ entries) =
    can_place rules previous offset op_index && follows rules (first_row rules) entries

-- the row after entries, from which the next ones count
abbrev pub row_after_entries : LineRules → LineRow → List LineEntry → LineRow
row_after_entries rules previous [] = previous
row_after_entries rules previous (SetAddress _ ∷ entries) =
    row_after_entries rules (row_at_address previous) entries
row_after_entries rules previous (Row row ∷ entries) =
    row_after_entries rules (row_after_row row) entries
row_after_entries rules previous (EndSequence _ _ ∷ entries) =
    row_after_entries rules (first_row rules) entries
