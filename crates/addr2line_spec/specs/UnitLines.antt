-- The lines of a unit: the rows of its line number program, and the texts of its files (DWARF 5,
-- 6.2).
use Rattle.std.specs.Prelude.{ℕ, ◌++◌, map, Option, Some, None, Result, Ok}
use Rattle.std.specs.Option.{option_or}
use Rattle.gimli_lines_machine.specs.Error.{Error}
use Rattle.gimli_lines_machine.specs.View.{View}
use Rattle.gimli_lines_machine.specs.Repetition.{Listing, fault_of}
use Rattle.gimli_dwarf_spec.specs.LineFiles.{FileFacts, file_in}
use Rattle.gimli_dwarf_spec.specs.LineHeaders.{LineHeader}
use Rattle.gimli_lines_machine.specs.declared.rules.LineRules.{LineRules}
use Rattle.gimli_lines_machine.specs.declared.registers.Registers.{Registers}
use Rattle.gimli_lines_machine.specs.Decoding.{instructions_with}
use Rattle.gimli_lines_machine.specs.LineInstructions.{InstructionOf}
use Rattle.gimli_lines_machine.specs.Runs.{Execution, run_of, shown_rows, files_of}
use Rattle.gimli_lines_machine.specs.Results.{and_then, unless}
use Rattle.gimli_dwarf_spec.specs.UnitFacts.{UnitInFile}
use Rattle.addr2line_spec.specs.Lines.{ProgramRow, Lines, no_lines, sequences_of_rows}
use Rattle.addr2line_spec.specs.FileTexts.{texts_of_files}

-- ---- the program

abbrev pub rules_of : LineHeader → LineRules
rules_of h =
    record { encoding = h.encoding; line_encoding = h.line_encoding; opcode_base = h.opcode_base }

-- the instructions after a header, each file that one defines as the header's files are
abbrev pub instructions_of : ℕ → LineHeader → Listing View (InstructionOf FileFacts)
instructions_of limit h =
    instructions_with file_in limit (rules_of h) h.standard_opcode_lengths.bytes h.program

-- their execution
abbrev pub run_of_program : ℕ → LineHeader → Listing Registers (Execution FileFacts)
run_of_program limit h = run_of (rules_of h) (instructions_of limit h).items

-- what ends the rows before the program's end: an instruction that is refused, or after all others
-- bytes that aren't one
abbrev pub fault_of_program : ℕ → LineHeader → Option Error
fault_of_program limit h =
    option_or (fault_of (run_of_program limit h)) (fault_of (instructions_of limit h))

-- a row as lookups see it
abbrev pub program_row : Registers → ProgramRow
program_row r =
    record {
      address = r.address;
      file = r.file;
      line = r.line;
      column = r.column;
      statement = r.is_stmt;
      discriminator = r.discriminator;
      ends = r.end_sequence;
    }

-- the header with the files that the program defines after its own
abbrev pub with_defined_files : ℕ → LineHeader → LineHeader
with_defined_files limit h = record h { files = h.files ++ files_of (run_of_program limit h).items }

-- ---- lines

-- the lines of a program: its sequences and its files' texts; refused by its fault, or by the first
-- text that can't be read
abbrev pub lines_of_program : UnitInFile → LineHeader → Result Lines Error
lines_of_program u h =
    unless (fault_of_program u.file.offset_limit h)
    (and_then (texts_of_files u (with_defined_files u.file.offset_limit h)) (λ files.
    Ok (record {
      sequences = sequences_of_rows
          (map program_row (shown_rows (run_of_program u.file.offset_limit h).items));
      files = files;
    })))

abbrev pub lines_if_any : UnitInFile → Option LineHeader → Result Lines Error
lines_if_any u None = Ok no_lines
lines_if_any u (Some h) = lines_of_program u h

-- the lines of a unit; none where it has no program
abbrev pub lines_of_unit : UnitInFile → Result Lines Error
lines_of_unit u = lines_if_any u u.facts.line_header
