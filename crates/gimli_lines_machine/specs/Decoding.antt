-- The instructions of a line number program as bytes (DWARF 5, 6.2.5 and 7.22).
use Rattle.std.specs.Prelude.{ℕ, ◌-◌, ◌==◌, ◌&&◌, nat_lt, nat_le, List, slice_index}
use Rattle.gimli_core_readers.specs.View.{View, prefix, bytes_left}
use Rattle.gimli_core_readers.specs.Parsers.{Parser, ◌>>=◌, proceed, give, lift, branch, part, within, here, map_value, null_terminated}
use Rattle.gimli_core_readers.specs.Repetition.{Listing, listing_in, until_end, times}
use Rattle.gimli_core_readers.specs.TheConstants.{DW_LNS_copy, DW_LNS_advance_pc, DW_LNS_advance_line, DW_LNS_set_file, DW_LNS_set_column, DW_LNS_negate_stmt, DW_LNS_set_basic_block, DW_LNS_const_add_pc, DW_LNS_fixed_advance_pc, DW_LNS_set_prologue_end, DW_LNS_set_epilogue_begin, DW_LNS_set_isa, DW_LNE_end_sequence, DW_LNE_set_address, DW_LNE_define_file, DW_LNE_set_discriminator}
use Rattle.gimli_core_readers.specs.NumberParsers.{fixed, unsigned, signed, address, offset_below}
use Rattle.gimli_lines_machine.specs.declared.rules.LineRules.{LineRules}
use Rattle.gimli_lines_machine.specs.LineInstructions.{Instruction, InstructionOf, DefinedFile, special, copy, advance_pc, advance_line, set_file, set_column, negate_stmt, set_basic_block, const_add_pc, fixed_advance_pc, set_prologue_end, set_epilogue_begin, set_isa, unknown_standard_0, unknown_standard_1, unknown_standard_n, end_sequence, set_address, define_file, set_discriminator, unknown_extended}

-- ---- standard opcodes (6.2.5.2)

-- the bytes that something takes
abbrev pub span_of : {A : Type 0} → Parser A → Parser View
span_of p v = proceed (p v) (λ _ w. give (prefix (w.first - v.first) v) w)

-- The operands of an opcode that the standard doesn't name, `count` of them, each unsigned LEB128.
abbrev pub unknown_instruction : {F : Type 0} → ℕ → ℕ → Parser (InstructionOf F)
unknown_instruction opcode count =
    branch (count == 0) (give (unknown_standard_0 opcode))
    (branch (count == 1) (map_value (unknown_standard_1 opcode) unsigned)
    (map_value (unknown_standard_n opcode) (span_of (times count unsigned))))

-- An opcode that the standard names has the standard's operands; of the others the header counts
-- the operands, the number of opcode 1 first.
unfoldable pub standard_instruction : {F : Type 0} → List ℕ → ℕ → Parser (InstructionOf F)
standard_instruction operand_counts opcode =
    branch (opcode == DW_LNS_copy.0) (give copy)
    (branch (opcode == DW_LNS_advance_pc.0) (map_value advance_pc unsigned)
    (branch (opcode == DW_LNS_advance_line.0) (map_value advance_line signed)
    (branch (opcode == DW_LNS_set_file.0) (map_value set_file unsigned)
    (branch (opcode == DW_LNS_set_column.0) (map_value set_column unsigned)
    (branch (opcode == DW_LNS_negate_stmt.0) (give negate_stmt)
    (branch (opcode == DW_LNS_set_basic_block.0) (give set_basic_block)
    (branch (opcode == DW_LNS_const_add_pc.0) (give const_add_pc)
    (branch (opcode == DW_LNS_fixed_advance_pc.0) (map_value fixed_advance_pc (fixed 2))
    (branch (opcode == DW_LNS_set_prologue_end.0) (give set_prologue_end)
    (branch (opcode == DW_LNS_set_epilogue_begin.0) (give set_epilogue_begin)
    (branch (opcode == DW_LNS_set_isa.0) (map_value set_isa unsigned)
    (unknown_instruction opcode (slice_index operand_counts (opcode - 1))))))))))))))

-- ---- extended opcodes (6.2.5.3)

-- What is made of a file's path, the number of its directory, when it was changed, and its bytes.
abbrev pub FileMaker : Type 0 → Type 0
FileMaker F = View → ℕ → ℕ → ℕ → F

-- a file from those fields
unfoldable pub defined_file : {F : Type 0} → FileMaker F → Parser F
defined_file make = do
  path ← null_terminated
  directory ← unsigned
  timestamp ← unsigned
  size ← unsigned
  give (make path directory timestamp size)

-- Up to version 4 an opcode defines a file.
abbrev pub extended_of : {F : Type 0} → FileMaker F → LineRules → ℕ
    → Parser (InstructionOf F)
extended_of make rules opcode =
    branch (opcode == DW_LNE_end_sequence.0) (give end_sequence)
    (branch (opcode == DW_LNE_set_address.0)
    (map_value set_address (address rules.encoding.address_size))
    (branch (opcode == DW_LNE_define_file.0 && nat_le rules.encoding.version 4)
    (map_value define_file (defined_file make))
    (branch (opcode == DW_LNE_set_discriminator.0) (map_value set_discriminator unsigned)
    (map_value (unknown_extended opcode) here))))

-- an opcode and its operands, which need not take all of their bytes
unfoldable pub extended_in : {F : Type 0} → FileMaker F → LineRules → Parser (InstructionOf F)
extended_in make rules = fixed 1 >>= extended_of make rules

-- a length, and as many bytes
unfoldable pub extended_instruction : {F : Type 0} → FileMaker F → ℕ → LineRules
    → Parser (InstructionOf F)
extended_instruction make limit rules = do
  n ← unsigned
  length ← lift (offset_below limit n)
  bytes ← part length
  within bytes (extended_in make rules)

-- ---- instructions

-- the instruction of an opcode: extended, standard or special
abbrev pub of_opcode : {F : Type 0} → FileMaker F → ℕ → LineRules → List ℕ → ℕ
    → Parser (InstructionOf F)
of_opcode make limit rules operand_counts opcode =
    branch (opcode == 0) (extended_instruction make limit rules)
    (branch (nat_lt opcode rules.opcode_base) (standard_instruction operand_counts opcode)
    (give (special opcode)))

-- An instruction, with what is made of a file that it defines. Lengths are offsets below a limit,
-- and the header counts the operands of its standard opcodes.
unfoldable pub instruction_with : {F : Type 0} → FileMaker F → ℕ → LineRules → List ℕ
    → Parser (InstructionOf F)
instruction_with make limit rules operand_counts =
    fixed 1 >>= of_opcode make limit rules operand_counts

-- all instructions up to the end, or to the first that can't be read
abbrev pub instructions_with : {F : Type 0} → FileMaker F → ℕ → LineRules → List ℕ
    → View → Listing View (InstructionOf F)
instructions_with make limit rules operand_counts v =
    listing_in bytes_left (until_end (instruction_with make limit rules operand_counts)) v

-- ---- the same, with a file as its fields

-- the file of those fields
abbrev pub file_of_fields : FileMaker DefinedFile
file_of_fields path directory timestamp size =
    record { path = path; directory = directory; timestamp = timestamp; size = size }

-- all instructions up to the end, or to the first that can't be read
abbrev pub instructions : ℕ → LineRules → List ℕ → View → Listing View Instruction
instructions limit rules operand_counts v =
    instructions_with file_of_fields limit rules operand_counts v
