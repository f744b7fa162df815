-- The instructions that are written for a row, by what they change (DWARF 5, 6.2.5).
use Rattle.std.specs.Prelude.{◌≡◌, ℕ, ℤ, pos, ◌+◌, ◌-◌, ◌*◌, ◌/◌, ◌<◌, ◌≤◌, ◌+ℤ◌, ◌-ℤ◌, ◌<ℤ◌, ◌≤ℤ◌, ◌==◌, ◌&&◌, not, nat_le, int_lt, int_le, unsigned_abs, Bool, IsTrue, List, [], ◌∷◌, ◌++◌, if◌then◌else◌}
use Rattle.std.proofs.Math.Bool.{beq}
use Rattle.gimli_lines_write_bytes.specs.LineEncoding.{LineEncoding}
use Rattle.gimli_lines_write_bytes.specs.NumberParsers.{is_address_size}
use Rattle.gimli_lines_machine.specs.declared.rules.LineRules.{LineRules}
use Rattle.gimli_lines_machine.specs.LineInstructions.{InstructionOf, special, advance_pc, advance_line, set_file, set_column, negate_stmt, set_basic_block, const_add_pc, set_prologue_end, set_epilogue_begin, set_isa, end_sequence, set_discriminator}
use Rattle.gimli_lines_write_rows.specs.declared.row.LineRow.{LineRow}
use Rattle.gimli_lines_write_rows.specs.declared.instruction.LineInstruction.{LineInstruction}
use Rattle.gimli_lines_write_rows.specs.declared.instruction.LineInstruction.TheVariants.{Special, AdvancePc, AdvanceLine, SetFile, SetColumn, NegateStatement, SetBasicBlock, ConstAddPc, SetPrologueEnd, SetEpilogueBegin, SetIsa, EndSequence, SetDiscriminator}
use Rattle.gimli_lines_write_rows.specs.BuiltRows.{raw_file, operations_between}

-- what a reader takes it for
abbrev pub to_instruction : {F : Type 0} → LineInstruction → InstructionOf F
to_instruction (Special opcode) = special opcode
to_instruction (AdvancePc n) = advance_pc n
to_instruction (AdvanceLine n) = advance_line n
to_instruction (SetFile n) = set_file n
to_instruction (SetColumn n) = set_column n
to_instruction NegateStatement = negate_stmt
to_instruction SetBasicBlock = set_basic_block
to_instruction ConstAddPc = const_add_pc
to_instruction SetPrologueEnd = set_prologue_end
to_instruction SetEpilogueBegin = set_epilogue_begin
to_instruction (SetIsa n) = set_isa n
to_instruction EndSequence = end_sequence
to_instruction (SetDiscriminator n) = set_discriminator n

-- Parameters with which any row can be written: one special opcode advances by no line and no
-- operation, and instructions have bytes and operations. The special opcodes begin at 13.
pub record IsBuildable (rules : LineRules) : Type 0 where
  pub has_address_size : IsTrue (is_address_size rules.encoding.address_size)
  pub has_bytes : 0 < rules.line_encoding.minimum_instruction_length
  pub has_operations : 0 < rules.line_encoding.maximum_operations_per_instruction
  pub base_is_low : rules.line_encoding.line_base ≤ℤ pos 0
  pub covers_zero : pos 0 <ℤ (rules.line_encoding.line_base +ℤ pos rules.line_encoding.line_range)
  pub range_is_low : rules.line_encoding.line_range ≤ 127
  pub first_special : rules.opcode_base ≡ 13

-- an item where a test holds
abbrev pub when : {A : Type 0} → Bool → A → List A
when b x = if b then x ∷ [] else []

-- what holds for the row alone
unfoldable pub flags : LineRow → List LineInstruction
flags row =
    when (not (row.discriminator == 0)) (SetDiscriminator row.discriminator)
    ++ (when row.basic_block SetBasicBlock
    ++ (when row.prologue_end SetPrologueEnd
    ++ when row.epilogue_begin SetEpilogueBegin))

-- what holds on, where it changes
unfoldable pub changes : ℕ → LineRow → LineRow → List LineInstruction
changes version previous row =
    when (not (beq row.is_statement previous.is_statement)) NegateStatement
    ++ (when (not (raw_file version row.file.0 == raw_file version previous.file.0))
    (SetFile (raw_file version row.file.0))
    ++ (when (not (row.column == previous.column)) (SetColumn row.column)
    ++ when (not (row.isa == previous.isa)) (SetIsa row.isa)))

-- a special opcode can move the line that far
abbrev pub is_special : LineEncoding → ℤ → Bool
is_special e lines = int_le e.line_base lines && int_lt lines (e.line_base +ℤ pos e.line_range)

-- the lines that a special opcode is to move
abbrev pub opcode_lines : LineEncoding → ℤ → ℤ
opcode_lines e lines = if is_special e lines then lines else pos 0

-- how far above the line base they are
abbrev pub line_step : LineEncoding → ℤ → ℕ
line_step e lines = unsigned_abs (opcode_lines e lines -ℤ e.line_base)

-- the operations by which the greatest special opcode advances
abbrev pub most_operations : LineEncoding → ℕ
most_operations e = 242 / e.line_range

-- the most operations by which one with this step of lines advances
abbrev pub room : LineEncoding → ℕ → ℕ
room e step = (242 - step) / e.line_range

-- `const_add_pc`, which advances as opcode 255 does, and one such opcode advance that far
abbrev pub is_const : LineEncoding → ℕ → ℕ → Bool
is_const e step operations =
    nat_le (most_operations e) operations && nat_le (operations - most_operations e) (room e step)

-- what moves the address before the special opcode
abbrev pub advance : LineEncoding → ℕ → ℕ → List LineInstruction
advance e step operations =
    if nat_le operations (room e step) then []
    else (if is_const e step operations then ConstAddPc ∷ [] else AdvancePc operations ∷ [])

-- the operations by which the special opcode advances
abbrev pub opcode_operations : LineEncoding → ℕ → ℕ → ℕ
opcode_operations e step operations =
    if nat_le operations (room e step) then operations
    else (if is_const e step operations then operations - most_operations e else 0)

-- a move by lines and operations, and the row
unfoldable pub moves : LineEncoding → ℤ → ℕ → List LineInstruction
moves e lines operations =
    when (not (is_special e lines)) (AdvanceLine lines)
    ++ (advance e (line_step e lines) operations
    ++ Special (13 + line_step e lines + e.line_range * opcode_operations e (line_step e lines)
    operations) ∷ [])

-- a row after another one
unfoldable pub row_piece : LineRules → LineRow → LineRow → List LineInstruction
row_piece rules previous row =
    flags row
    ++ (changes rules.encoding.version previous row
    ++ moves rules.line_encoding (pos row.line -ℤ pos previous.line)
    (operations_between rules previous row.address_offset row.op_index))

-- the end of a sequence after a row
unfoldable pub end_piece : LineRules → LineRow → ℕ → ℕ → List LineInstruction
end_piece rules previous offset op_index =
    when (not (operations_between rules previous offset op_index == 0))
    (AdvancePc (operations_between rules previous offset op_index))
    ++ EndSequence ∷ []
