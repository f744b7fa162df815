-- Instructions as contracts see them: their bytes as views.
use Rattle.gimli_lines_machine.specs.View.{View}
use Rattle.gimli_lines_header.specs.LineFiles.{FileFacts}
use Rattle.gimli_lines_machine.specs.LineInstructions.{InstructionOf, special, copy, advance_pc, advance_line, set_file, set_column, negate_stmt, set_basic_block, const_add_pc, fixed_advance_pc, set_prologue_end, set_epilogue_begin, set_isa, unknown_standard_0, unknown_standard_1, unknown_standard_n, end_sequence, set_address, define_file, set_discriminator, unknown_extended}
use Rattle.gimli_lines_rows.specs.declared.instruction.LineInstruction.{LineInstruction}
use Rattle.gimli_lines_rows.specs.declared.instruction.LineInstruction.TheVariants.{Special, Copy, AdvancePc, AdvanceLine, SetFile, SetColumn, NegateStatement, SetBasicBlock, ConstAddPc, FixedAddPc, SetPrologueEnd, SetEpilogueBegin, SetIsa, UnknownStandard0, UnknownStandard1, UnknownStandardN, EndSequence, SetAddress, DefineFile, SetDiscriminator, UnknownExtended}

-- the instruction that a reader has read
abbrev pub line_instruction : {R E O : Type 0} → (R → View) → LineInstruction R E O
    → InstructionOf FileFacts
line_instruction view (Special opcode) = special opcode
line_instruction view Copy = copy
line_instruction view (AdvancePc n) = advance_pc n
line_instruction view (AdvanceLine n) = advance_line n
line_instruction view (SetFile n) = set_file n
line_instruction view (SetColumn n) = set_column n
line_instruction view NegateStatement = negate_stmt
line_instruction view SetBasicBlock = set_basic_block
line_instruction view ConstAddPc = const_add_pc
line_instruction view (FixedAddPc n) = fixed_advance_pc n
line_instruction view SetPrologueEnd = set_prologue_end
line_instruction view SetEpilogueBegin = set_epilogue_begin
line_instruction view (SetIsa n) = set_isa n
line_instruction view (UnknownStandard0 opcode) = unknown_standard_0 opcode.0
line_instruction view (UnknownStandard1 opcode n) = unknown_standard_1 opcode.0 n
line_instruction view (UnknownStandardN opcode operands) =
    unknown_standard_n opcode.0 (view operands)
line_instruction view EndSequence = end_sequence
line_instruction view (SetAddress n) = set_address n
line_instruction view (DefineFile file) = define_file file
line_instruction view (SetDiscriminator n) = set_discriminator n
line_instruction view (UnknownExtended opcode operands) = unknown_extended opcode.0 (view operands)
