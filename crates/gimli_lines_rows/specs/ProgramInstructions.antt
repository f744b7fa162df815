-- The instructions of a line number program under its header.
use Rattle.std.specs.Prelude.{ℕ, Option, option_map, Result, Ok, Err}
use Rattle.gimli_lines_machine.specs.Error.{Error}
use Rattle.gimli_lines_machine.specs.View.{View}
use Rattle.gimli_lines_machine.specs.Parsers.{Parser}
use Rattle.gimli_lines_machine.specs.Repetition.{Listing, until_end}
use Rattle.gimli_lines_header.specs.LineFiles.{FileFacts, file_in}
use Rattle.gimli_lines_header.specs.LineHeaders.{LineHeader}
use Rattle.gimli_lines_machine.specs.declared.rules.LineRules.{LineRules}
use Rattle.gimli_lines_machine.specs.LineInstructions.{InstructionOf}
use Rattle.gimli_lines_machine.specs.Decoding.{instruction_with, instructions_with}

-- what instructions depend on
abbrev pub rules_of : LineHeader → LineRules
rules_of h =
    record { encoding = h.encoding; line_encoding = h.line_encoding; opcode_base = h.opcode_base }

-- an instruction
abbrev pub instruction_in : ℕ → LineHeader → Parser (InstructionOf FileFacts)
instruction_in limit h = instruction_with file_in limit (rules_of h) h.standard_opcode_lengths.bytes

-- the next instruction, none at the end of the program
abbrev pub next_instruction : ℕ → LineHeader → View
    → Result (Option (InstructionOf FileFacts) × View) Error
next_instruction limit h v = until_end (instruction_in limit h) v

-- an item with what is left after it
abbrev pub with_rest : {A : Type 0} → Result (Option A × View) Error
    → Result (Option (A × View)) Error
with_rest (Ok r) = Ok (option_map (λ x. (x, r.1)) r.0)
with_rest (Err e) = Err e

-- all instructions from there on, up to the end of the program or to the first that can't be read
abbrev pub instructions_in : ℕ → LineHeader → View → Listing View (InstructionOf FileFacts)
instructions_in limit h v =
    instructions_with file_in limit (rules_of h) h.standard_opcode_lengths.bytes v
