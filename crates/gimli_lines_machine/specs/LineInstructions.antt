-- The instructions of a line number program (DWARF 5, 6.2.5), with their operands.
use Rattle.std.specs.Prelude.{ℕ, ℤ, List, Option, Some, None}
use Rattle.std.specs.List.{filter_map}
use Rattle.gimli_core_readers.specs.View.{View}

-- the file that an instruction defines, up to version 4 (DWARF 4, 6.2.5.3)
pub record DefinedFile : Type 0 where
  pub path : View
  pub directory : ℕ
  pub timestamp : ℕ
  pub size : ℕ

-- An instruction. What it says of a file that it defines is of type F.
pub data InstructionOf (F : Type 0) : Type 0 where
  -- special opcodes (6.2.5.1)
  special : (opcode : ℕ) → InstructionOf F
  -- standard opcodes (6.2.5.2)
  copy : InstructionOf F
  advance_pc : (operations : ℕ) → InstructionOf F
  advance_line : (lines : ℤ) → InstructionOf F
  set_file : (file : ℕ) → InstructionOf F
  set_column : (column : ℕ) → InstructionOf F
  negate_stmt : InstructionOf F
  set_basic_block : InstructionOf F
  const_add_pc : InstructionOf F
  fixed_advance_pc : (advance : ℕ) → InstructionOf F
  set_prologue_end : InstructionOf F
  set_epilogue_begin : InstructionOf F
  set_isa : (isa : ℕ) → InstructionOf F
  -- opcodes below the header's opcode_base that the standard doesn't name, by how many operands
  -- they have
  unknown_standard_0 : (opcode : ℕ) → InstructionOf F
  unknown_standard_1 : (opcode operand : ℕ) → InstructionOf F
  unknown_standard_n : (opcode : ℕ) (operands : View) → InstructionOf F
  -- extended opcodes (6.2.5.3)
  end_sequence : InstructionOf F
  set_address : (address : ℕ) → InstructionOf F
  define_file : (file : F) → InstructionOf F
  set_discriminator : (discriminator : ℕ) → InstructionOf F
  unknown_extended : (opcode : ℕ) (operands : View) → InstructionOf F

-- an instruction as its bytes give it
abbrev pub Instruction : Type 0
Instruction = InstructionOf DefinedFile

-- the file that an instruction defines, if it does
abbrev pub file_definition : {F : Type 0} → InstructionOf F → Option F
file_definition (define_file file) = Some file
file_definition _ = None

-- the files that instructions define, in order
abbrev pub defined_files : {F : Type 0} → List (InstructionOf F) → List F
defined_files instructions = filter_map file_definition instructions
