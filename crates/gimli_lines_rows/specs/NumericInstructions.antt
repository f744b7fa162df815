-- Instructions whose operands are numbers, and how they are read where borrowed bytes begin.
use Rattle.std.specs.Prelude.{◌≡◌, ◌==◌, ◌&&◌, nat_le, ℕ, Bool, Option, Some, None, Result, Ok, Err}
use Rattle.gimli_lines_machine.specs.Error.{Error}
use Rattle.gimli_lines_machine.specs.View.{View}
use Rattle.gimli_lines_machine.specs.Parsers.{Parser, branch, map_value, here}
use Rattle.gimli_lines_machine.specs.Repetition.{times}
use Rattle.gimli_lines_machine.specs.NumberParsers.{unsigned}
use Rattle.gimli_lines_machine.specs.TheConstants.{DW_LNE_define_file}
use Rattle.gimli_lines_header.specs.LineFiles.{FileFacts, file_in}
use Rattle.gimli_lines_machine.specs.declared.rules.LineRules.{LineRules}
use Rattle.gimli_lines_machine.specs.declared.registers.Registers.{Registers}
use Rattle.gimli_lines_machine.specs.LineInstructions.{InstructionOf, special, copy, advance_pc, advance_line, set_file, set_column, negate_stmt, set_basic_block, const_add_pc, fixed_advance_pc, set_prologue_end, set_epilogue_begin, set_isa, unknown_standard_0, unknown_standard_1, unknown_standard_n, end_sequence, set_address, define_file, set_discriminator, unknown_extended}
use Rattle.gimli_lines_machine.specs.Machine.{gives_row}
use Rattle.gimli_lines_machine.specs.Decoding.{span_of, defined_file}
use Rattle.gimli_lines_rows.specs.declared.numeric.NumericInstruction.{NumericInstruction}
use Rattle.gimli_lines_rows.specs.declared.numeric.NumericInstruction.TheVariants.{Special, Copy, AdvancePc, AdvanceLine, SetFile, SetColumn, NegateStatement, SetBasicBlock, ConstAddPc, FixedAddPc, SetPrologueEnd, SetEpilogueBegin, SetIsa, UnknownStandard0, UnknownStandard1, EndSequence, SetAddress, SetDiscriminator}

-- the instruction that it is
abbrev pub numeric_instruction : NumericInstruction → InstructionOf FileFacts
numeric_instruction (Special opcode) = special opcode
numeric_instruction Copy = copy
numeric_instruction (AdvancePc n) = advance_pc n
numeric_instruction (AdvanceLine n) = advance_line n
numeric_instruction (SetFile n) = set_file n
numeric_instruction (SetColumn n) = set_column n
numeric_instruction NegateStatement = negate_stmt
numeric_instruction SetBasicBlock = set_basic_block
numeric_instruction ConstAddPc = const_add_pc
numeric_instruction (FixedAddPc n) = fixed_advance_pc n
numeric_instruction SetPrologueEnd = set_prologue_end
numeric_instruction SetEpilogueBegin = set_epilogue_begin
numeric_instruction (SetIsa n) = set_isa n
numeric_instruction (UnknownStandard0 opcode) = unknown_standard_0 opcode.0
numeric_instruction (UnknownStandard1 opcode n) = unknown_standard_1 opcode.0 n
numeric_instruction EndSequence = end_sequence
numeric_instruction (SetAddress n) = set_address n
numeric_instruction (SetDiscriminator n) = set_discriminator n

-- An instruction is executed: the registers become its meaning, and the result says whether it
-- gives a row; refused, they are as before.
abbrev pub ExecutesNumeric : Result Bool Error → Registers → Registers
    → Result Registers Error → NumericInstruction → Type 0
ExecutesNumeric (Ok b) old new meaning i =
    (meaning ≡ Ok new) × (b ≡ gives_row (numeric_instruction i))
ExecutesNumeric (Err e) old new meaning i = (meaning ≡ Err e) × (new ≡ old)

-- ---- the other instructions

-- a standard opcode that the standard doesn't name, with several operands
abbrev pub unknown_with_bytes : ℕ → ℕ → Parser (InstructionOf FileFacts)
unknown_with_bytes opcode count =
    map_value (unknown_standard_n opcode) (span_of (times count unsigned))

-- an extended opcode that defines a file, or that the standard doesn't name
abbrev pub extended_with_bytes : LineRules → ℕ → Parser (InstructionOf FileFacts)
extended_with_bytes rules opcode =
    branch (opcode == DW_LNE_define_file.0 && nat_le rules.encoding.version 4)
    (map_value define_file (defined_file file_in)) (map_value (unknown_extended opcode) here)

-- ---- calls

-- An instruction whose operands are numbers; where they aren't, the meaning is what another parser
-- makes of the bytes that are left.
abbrev pub ReturnsNumericOr : Result (Option NumericInstruction) Error → View
    → Result (InstructionOf FileFacts × View) Error → Parser (InstructionOf FileFacts)
    → Type 0
ReturnsNumericOr (Ok (Some i)) new meaning other = meaning ≡ Ok (numeric_instruction i, new)
ReturnsNumericOr (Ok None) new meaning other = meaning ≡ other new
ReturnsNumericOr (Err e) new meaning other = meaning ≡ Err e
