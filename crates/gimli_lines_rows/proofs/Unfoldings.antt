-- Definitions that proofs unfold together.
use Rattle.gimli_lines_machine.specs.Decoding.{extended_instruction, extended_in, defined_file}
use Rattle.gimli_lines_header.specs.HeaderTables.{file_after_path}

-- an extended opcode and its operands, after their length
unfoldable pub all_of_extended : Unit {0}
unfolding extended_instruction extended_in
all_of_extended = tt {0}

-- the same in bytes of its own, with the file that it may define
unfoldable pub all_of_operands : Unit {0}
unfolding extended_in defined_file file_after_path
all_of_operands = tt {0}
