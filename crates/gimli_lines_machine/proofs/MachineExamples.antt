-- Worked values of the state machine and of the instructions' bytes.
use Rattle.std.proofs.Common.{◌≡◌, ◌^◌, refl, ℕ, List, [], ◌∷◌, Result, Ok, Err, true, false}
use Rattle.std.specs.Prelude.{pos, negsuc}
use Rattle.gimli_core_readers.specs.Error.{Error}
use Rattle.gimli_core_readers.specs.Error.TheVariants.{AddressOverflow, UnexpectedEof}
use Rattle.gimli_core_readers.specs.View.{View}
use Rattle.gimli_core_readers.specs.Repetition.{listing_in, items_within, times}
use Rattle.gimli_core_readers.specs.Format.TheVariants.{Dwarf32}
use Rattle.gimli_core_readers.specs.NumberParsers.{fixed, unsigned, signed, address}
use Rattle.gimli_lines_machine.specs.declared.rules.LineRules.{LineRules}
use Rattle.gimli_lines_machine.specs.declared.registers.Registers.{Registers}
use Rattle.gimli_lines_machine.specs.LineInstructions.{Instruction, DefinedFile, special, copy, advance_pc, advance_line, set_file, set_column, negate_stmt, set_basic_block, const_add_pc, fixed_advance_pc, set_prologue_end, set_epilogue_begin, set_isa, unknown_standard_n, end_sequence, set_address, define_file, set_discriminator, unknown_extended}
use Rattle.gimli_lines_machine.specs.Machine.{start, registers_after, after_row}
use Rattle.gimli_lines_machine.specs.Runs.{run_of, shown_rows, is_shown}
use Rattle.gimli_lines_machine.specs.Decoding.{instruction_with, instructions, standard_instruction, extended_instruction, extended_in, defined_file}

-- what an instruction makes of the registers
abbrev changed_by : LineRules → Instruction → Registers → Result Registers Error
changed_by rules i r = registers_after rules i r

-- one byte an instruction, lines from -3 on, twelve of them
abbrev rules : LineRules
rules = record {
  encoding = record { address_size = 8; format = Dwarf32; version = 4 };
  line_encoding = record {
    minimum_instruction_length = 1;
    maximum_operations_per_instruction = 1;
    default_is_stmt = true;
    line_base = negsuc 2;
    line_range = 12;
  };
  opcode_base = 13;
}

-- ---- special opcode 55: 42 is 3 operations, and 6 lines from -3 on

special_55 : changed_by rules (special 55) (start rules) ≡ Ok (record (start rules) { address = 3; line = 4 })
special_55 = refl

special_is_shown : is_shown {F = DefinedFile}
    (record { before = start rules; instruction = special 55; after = record (start rules) { address = 3; line = 4 } })
    ≡ true
special_is_shown = refl

-- ---- an address that goes back hides what follows, and leaves the address

goes_back : changed_by rules (set_address 0) (record (start rules) { address = 1 })
    ≡ Ok (record (start rules) { address = 1; is_hidden = true })
goes_back = refl

tombstone : changed_by rules (set_address 0xfffffffffffffffe) (start rules)
    ≡ Ok (record (start rules) { is_hidden = true })
tombstone = refl

hidden_address_stays : changed_by rules (fixed_advance_pc 9) (record (start rules) { address = 1; is_hidden = true })
    ≡ Ok (record (start rules) { address = 1; is_hidden = true })
hidden_address_stays = refl

abbrev at_line : ℕ → ℕ → Registers
at_line address line = record (start rules) { address = address; line = line }

-- rows at 0x10 and 0x100, an end that is hidden, and a sequence from 0x20 to 0x30
hidden_end : shown_rows {F = DefinedFile} (run_of rules (
    set_address 0x10 ∷ copy ∷ advance_pc 0xf0 ∷ advance_line (pos 1) ∷ copy ∷ set_address 5 ∷ end_sequence
    ∷ set_address 0x20 ∷ advance_line (pos 2) ∷ copy ∷ advance_pc 0x10 ∷ end_sequence ∷ [])).items
    ≡ at_line 0x10 1 ∷ at_line 0x100 2 ∷ at_line 0x20 3 ∷ record (at_line 0x30 3) { end_sequence = true } ∷ []
hidden_end = refl

-- a program of opcode 55 alone
special_55_row : shown_rows {F = DefinedFile} (run_of rules (special 55 ∷ [])).items ≡ at_line 3 4 ∷ []
special_55_row = refl

-- a row at address 1, an address that goes back to 0, and a row that it hides: the line moves, and the address doesn't
abbrev back_to_0 : List Instruction
back_to_0 = set_address 1 ∷ copy ∷ set_address 0 ∷ special 55 ∷ []

row_going_back_is_hidden : shown_rows (run_of rules back_to_0).items ≡ at_line 1 1 ∷ []
row_going_back_is_hidden = refl

address_stays : (run_of rules back_to_0).ending ≡ Ok (record (at_line 1 4) { is_hidden = true })
address_stays = refl

-- it hides none after an address that doesn't go back
back_and_forth : shown_rows {F = DefinedFile}
    (run_of rules (set_address 1 ∷ copy ∷ set_address 0 ∷ copy ∷ set_address 1 ∷ special 55 ∷ [])).items ≡ at_line 1 1
    ∷ at_line 4 4 ∷ []
back_and_forth = refl

-- ---- operations of an instruction: 5 of 3 each from operation 2 on are two instructions of 4 bytes and operation 1

abbrev wide : LineRules
wide = record rules {
  line_encoding = record rules.line_encoding {
    minimum_instruction_length = 4;
    maximum_operations_per_instruction = 3;
  };
}

operations : changed_by wide (advance_pc 5) (record (start wide) { op_index = 2 })
    ≡ Ok (record (start wide) { address = 8; op_index = 1 })
operations = refl

set_address_begins_an_instruction : changed_by wide (set_address 8) (record (start wide) { op_index = 2 })
    ≡ Ok (record (start wide) { address = 8 })
set_address_begins_an_instruction = refl

-- the operations of opcode 255: 242 / 12
constant : changed_by rules const_add_pc (start rules) ≡ Ok (record (start rules) { address = 20 })
constant = refl

-- ---- bounds

no_line_below_0 : changed_by rules (advance_line (negsuc 6)) (start rules) ≡ Ok (record (start rules) { line = 0 })
no_line_below_0 = refl

lines_wrap : changed_by rules (advance_line (pos 2)) (record (start rules) { line = 0xffffffffffffffff })
    ≡ Ok (record (start rules) { line = 1 })
lines_wrap = refl

past_the_address_size : changed_by rules (fixed_advance_pc 1) (record (start rules) { address = 0xffffffffffffffff })
    ≡ Err AddressOverflow
past_the_address_size = refl

-- ---- what is cleared

one_row_alone : after_row rules (record (start rules) {
  line = 9;
  basic_block = true;
  prologue_end = true;
  epilogue_begin = true;
  discriminator = 3;
  isa = 2;
}) ≡ record (start rules) { line = 9; isa = 2 }
one_row_alone = refl

end_clears_all : after_row rules (record (start rules) {
  line = 9;
  column = 4;
  isa = 2;
  end_sequence = true;
  is_hidden = true;
}) ≡ start rules
end_clears_all = refl

-- ---- bytes

abbrev view : List ℕ → View
view bytes = record { bytes = bytes; is_big = false; first = 0 }

-- the operands of standard opcodes, of one that is called 13 too
abbrev operand_counts : List ℕ
operand_counts = 0 ∷ 1 ∷ 1 ∷ 1 ∷ 1 ∷ 0 ∷ 0 ∷ 0 ∷ 1 ∷ 0 ∷ 0 ∷ 1 ∷ 2 ∷ []

abbrev read_all : List ℕ → List Instruction
read_all bytes = (instructions (2 ^ 64) (record rules { opcode_base = 14 }) operand_counts (view bytes)).items

standard_opcodes : read_all (1 ∷ 2 ∷ 0x80 ∷ 1 ∷ 3 ∷ 0x7f ∷ 4 ∷ 2 ∷ 5 ∷ 3 ∷ 6 ∷ 7 ∷ 8 ∷ 9 ∷ 1 ∷ 2 ∷ 10 ∷ 11 ∷ 12 ∷ 5 ∷ 14
    ∷ [])
    ≡ copy ∷ advance_pc 128 ∷ advance_line (negsuc 0) ∷ set_file 2 ∷ set_column 3 ∷ negate_stmt ∷ set_basic_block
    ∷ const_add_pc
    ∷ fixed_advance_pc 0x201 ∷ set_prologue_end ∷ set_epilogue_begin ∷ set_isa 5 ∷ special 14 ∷ []
unfolding listing_in items_within instruction_with standard_instruction fixed unsigned signed
standard_opcodes = refl

unknown_opcodes : read_all (13 ∷ 0x80 ∷ 1 ∷ 7 ∷ 0 ∷ 3 ∷ 9 ∷ 1 ∷ 2 ∷ 1 ∷ [])
    ≡ unknown_standard_n 13 (record { bytes = 0x80 ∷ 1 ∷ 7 ∷ []; is_big = false; first = 1 })
    ∷ unknown_extended 9 (record { bytes = 1 ∷ 2 ∷ []; is_big = false; first = 7 }) ∷ copy ∷ []
unfolding listing_in items_within instruction_with standard_instruction extended_instruction extended_in fixed unsigned
    times
unknown_opcodes = refl

extended_opcodes : read_all (0 ∷ 9 ∷ 2 ∷ 1 ∷ 0 ∷ 0 ∷ 0 ∷ 0 ∷ 0 ∷ 0 ∷ 0 ∷ 0 ∷ 6 ∷ 3 ∷ 65 ∷ 0 ∷ 1 ∷ 2 ∷ 3 ∷ 0 ∷ 2 ∷ 4 ∷ 8
    ∷ 0 ∷ 2 ∷ 1 ∷ 99 ∷ [])
    ≡ set_address 1 ∷ define_file (record {
      path = record { bytes = 65 ∷ []; is_big = false; first = 14 };
      directory = 1;
      timestamp = 2;
      size = 3;
    })
    ∷ set_discriminator 8 ∷ end_sequence ∷ []
unfolding listing_in items_within instruction_with standard_instruction extended_instruction extended_in defined_file
    fixed unsigned address
extended_opcodes = refl

-- the operand of an address is cut: its place is inside the instruction
cut_operand_is_a_fault : (instructions (2 ^ 64) rules operand_counts (view (1 ∷ 0 ∷ 3 ∷ 2 ∷ 1 ∷ 0 ∷ []))).ending
    ≡ Err (UnexpectedEof (record { 0 = 4 }))
unfolding listing_in items_within instruction_with standard_instruction extended_instruction extended_in fixed unsigned
    address
cut_operand_is_a_fault = refl
