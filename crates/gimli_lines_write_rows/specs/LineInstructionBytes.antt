-- The bytes of instructions (DWARF 5, 6.2.5 and 7.22).
use Rattle.std.specs.Prelude.{ℕ, ◌+◌, List, [], ◌∷◌, length}
use Rattle.std.specs.List.{flat_map}
use Rattle.gimli_lines_write_bytes.specs.TheConstants.{DW_LNS_advance_pc, DW_LNS_advance_line, DW_LNS_set_file, DW_LNS_set_column, DW_LNS_negate_stmt, DW_LNS_set_basic_block, DW_LNS_const_add_pc, DW_LNS_set_prologue_end, DW_LNS_set_epilogue_begin, DW_LNS_set_isa, DW_LNE_end_sequence, DW_LNE_set_discriminator}
use Rattle.gimli_lines_write_bytes.specs.Spelling.{unsigned_string, signed_string}
use Rattle.gimli_lines_write_rows.specs.declared.instruction.LineInstruction.{LineInstruction}
use Rattle.gimli_lines_write_rows.specs.declared.instruction.LineInstruction.TheVariants.{Special, AdvancePc, AdvanceLine, SetFile, SetColumn, NegateStatement, SetBasicBlock, ConstAddPc, SetPrologueEnd, SetEpilogueBegin, SetIsa, EndSequence, SetDiscriminator}

-- an instruction: its opcode and operands; after a zero byte and their length those of an extended
-- opcode
abbrev pub instruction_bytes : LineInstruction → List ℕ
instruction_bytes (Special opcode) = opcode ∷ []
instruction_bytes (AdvancePc n) = DW_LNS_advance_pc.0 ∷ unsigned_string n
instruction_bytes (AdvanceLine n) = DW_LNS_advance_line.0 ∷ signed_string n
instruction_bytes (SetFile n) = DW_LNS_set_file.0 ∷ unsigned_string n
instruction_bytes (SetColumn n) = DW_LNS_set_column.0 ∷ unsigned_string n
instruction_bytes NegateStatement = DW_LNS_negate_stmt.0 ∷ []
instruction_bytes SetBasicBlock = DW_LNS_set_basic_block.0 ∷ []
instruction_bytes ConstAddPc = DW_LNS_const_add_pc.0 ∷ []
instruction_bytes SetPrologueEnd = DW_LNS_set_prologue_end.0 ∷ []
instruction_bytes SetEpilogueBegin = DW_LNS_set_epilogue_begin.0 ∷ []
instruction_bytes (SetIsa n) = DW_LNS_set_isa.0 ∷ unsigned_string n
instruction_bytes EndSequence = 0 ∷ 1 ∷ DW_LNE_end_sequence.0 ∷ []
instruction_bytes (SetDiscriminator n) =
    0 ∷ (1 + length (unsigned_string n)) ∷ DW_LNE_set_discriminator.0 ∷ unsigned_string n

-- one after the other
abbrev pub instructions_bytes : List LineInstruction → List ℕ
instructions_bytes instructions = flat_map instruction_bytes instructions
