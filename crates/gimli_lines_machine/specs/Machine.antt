-- The state machine of a line number program (DWARF 5, 6.2.2 and 6.2.5): what an instruction makes
-- of the registers.
use Rattle.std.specs.Prelude.{◌≡◌, ◌<◌, IsTrue, ℕ, ℤ, pos, negsuc, ◌+◌, ◌-◌, ◌*◌, ◌/◌, ◌%◌, ◌^◌, ◌+ℤ◌, nat_lt, Bool, true, false, not, ◌||◌, Result, Ok, Err, if◌then◌else◌}
use Rattle.gimli_core_readers.specs.Error.{Error}
use Rattle.gimli_core_readers.specs.Error.TheVariants.{AddressOverflow}
use Rattle.gimli_core_readers.specs.NumberParsers.{is_address_size}
use Rattle.gimli_core_readers.specs.Addresses.{is_tombstone}
use Rattle.gimli_lines_machine.specs.declared.rules.LineRules.{LineRules}
use Rattle.gimli_lines_machine.specs.declared.registers.Registers.{Registers}
use Rattle.gimli_lines_machine.specs.LineInstructions.{InstructionOf, special, copy, advance_pc, advance_line, set_file, set_column, negate_stmt, set_basic_block, const_add_pc, fixed_advance_pc, set_prologue_end, set_epilogue_begin, set_isa, unknown_standard_0, unknown_standard_1, unknown_standard_n, end_sequence, set_address, define_file, set_discriminator, unknown_extended}

-- Rules that a header can give (6.2.4): an address has a size, an instruction has operations, and
-- special opcodes have lines.
pub record IsSound (rules : LineRules) : Type 0 where
  pub has_address_size : IsTrue (is_address_size rules.encoding.address_size)
  pub has_operations : 0 < rules.line_encoding.maximum_operations_per_instruction
  pub has_lines : 0 < rules.line_encoding.line_range

-- The registers after a call are those of its meaning; refused, they are as before.
abbrev pub Becomes : {A : Type 0} → Result A Error → Registers → Registers
    → Result Registers Error → Type 0
Becomes (Ok x) old new meaning = meaning ≡ Ok new
Becomes (Err e) old new meaning = (meaning ≡ Err e) × (new ≡ old)

-- the registers at the start of a sequence (DWARF 5, table 6.4)
abbrev pub start : LineRules → Registers
start rules = record {
  address = 0;
  op_index = 0;
  file = 1;
  line = 1;
  column = 0;
  is_stmt = rules.line_encoding.default_is_stmt;
  basic_block = false;
  end_sequence = false;
  prologue_end = false;
  epilogue_begin = false;
  isa = 0;
  discriminator = 0;
  is_hidden = false;
}

-- ---- lines

-- A line, moved: past 64 bits it wraps, and there is none below 0.
abbrev pub line_after : ℕ → ℤ → ℕ
line_after line (pos n) = (line + n) % 2 ^ 64
line_after line (negsuc n) = line - (n + 1)

-- the registers at another line
abbrev pub with_line : ℕ → Registers → Registers
with_line line r = record r { line = line }

-- ---- addresses

-- an address of a size, or a refusal where it is past that size
abbrev pub address_within : ℕ → ℕ → Result ℕ Error
address_within size address =
    if nat_lt address (2 ^ (8 * size)) then Ok address else Err AddressOverflow

-- the registers at an address, before an operation of the instruction there
abbrev pub registers_at : Registers → ℕ → Result ℕ Error → Result Registers Error
registers_at r op_index (Ok address) = Ok (record r { address = address; op_index = op_index })
registers_at r op_index (Err e) = Err e

-- the number of an operation n after the current one, from the instruction's first on (6.2.5.1)
abbrev pub operation_sum : Registers → ℕ → ℕ
operation_sum r n = (r.op_index + n) % 2 ^ 64

-- the bytes by which operations move the address
abbrev pub address_advance : LineRules → ℕ → ℕ
address_advance rules operations =
    rules.line_encoding.minimum_instruction_length
    * (operations / rules.line_encoding.maximum_operations_per_instruction) % 2 ^ 64

-- the registers at an operation counted from the instruction's first
abbrev pub to_operation : LineRules → Registers → ℕ → Result Registers Error
to_operation rules r operations =
    registers_at r (operations % rules.line_encoding.maximum_operations_per_instruction)
    (address_within rules.encoding.address_size (r.address + address_advance rules operations))

-- the registers n operations on; while rows are hidden the address stays
abbrev pub after_operations : LineRules → ℕ → Registers → Result Registers Error
after_operations rules n r = if r.is_hidden then Ok r else to_operation rules r (operation_sum r n)

-- n bytes on
abbrev pub after_bytes : LineRules → ℕ → Registers → Result Registers Error
after_bytes rules n r = if r.is_hidden then Ok r
    else registers_at r 0 (address_within rules.encoding.address_size (r.address + n))

-- An address below the one before it, or a tombstone, hides what follows it in its sequence, up to
-- the next one that is neither.
abbrev pub hides : LineRules → Registers → ℕ → Bool
hides rules r address = nat_lt address r.address || is_tombstone rules.encoding.address_size address

-- the registers after an address was set
abbrev pub at_new_address : LineRules → ℕ → Registers → Registers
at_new_address rules address r =
    if hides rules r address then record r { is_hidden = true }
    else record r { address = address; op_index = 0; is_hidden = false }

-- ---- special opcodes (6.2.5.1)

-- by how many operations an opcode advances
abbrev pub operation_advance : LineRules → ℕ → ℕ
operation_advance rules opcode = (opcode - rules.opcode_base) / rules.line_encoding.line_range

-- by how many lines
abbrev pub line_advance : LineRules → ℕ → ℤ
line_advance rules opcode = rules.line_encoding.line_base
    +ℤ pos ((opcode - rules.opcode_base) % rules.line_encoding.line_range)

-- ---- instructions

-- what an instruction makes of the registers, or its refusal
abbrev pub registers_after : {F : Type 0} → LineRules → InstructionOf F → Registers
    → Result Registers Error
registers_after rules (special opcode) r = after_operations rules (operation_advance rules opcode)
    (with_line (line_after r.line (line_advance rules opcode)) r)
registers_after rules copy r = Ok r
registers_after rules (advance_pc n) r = after_operations rules n r
registers_after rules (advance_line n) r = Ok (with_line (line_after r.line n) r)
registers_after rules (set_file n) r = Ok (record r { file = n })
registers_after rules (set_column n) r = Ok (record r { column = n })
registers_after rules negate_stmt r = Ok (record r { is_stmt = not r.is_stmt })
registers_after rules set_basic_block r = Ok (record r { basic_block = true })
registers_after rules const_add_pc r = after_operations rules (operation_advance rules 255) r
registers_after rules (fixed_advance_pc n) r = after_bytes rules n r
registers_after rules set_prologue_end r = Ok (record r { prologue_end = true })
registers_after rules set_epilogue_begin r = Ok (record r { epilogue_begin = true })
registers_after rules (set_isa n) r = Ok (record r { isa = n })
registers_after rules (unknown_standard_0 opcode) r = Ok r
registers_after rules (unknown_standard_1 opcode operand) r = Ok r
registers_after rules (unknown_standard_n opcode operands) r = Ok r
registers_after rules end_sequence r = Ok (record r { end_sequence = true })
registers_after rules (set_address address) r = Ok (at_new_address rules address r)
registers_after rules (define_file file) r = Ok r
registers_after rules (set_discriminator n) r = Ok (record r { discriminator = n })
registers_after rules (unknown_extended opcode operands) r = Ok r

-- ---- rows

-- the instruction gives a row
abbrev pub gives_row : {F : Type 0} → InstructionOf F → Bool
gives_row (special _) = true
gives_row copy = true
gives_row end_sequence = true
gives_row _ = false

-- After a row, shown or hidden: the end of a sequence is the start of the next one, and four
-- registers hold for one row alone.
abbrev pub after_row : LineRules → Registers → Registers
after_row rules r =
    if r.end_sequence then start rules
    else record r {
      basic_block = false;
      prologue_end = false;
      epilogue_begin = false;
      discriminator = 0;
    }

-- the registers after an instruction that left them so
abbrev pub next_registers : {F : Type 0} → LineRules → InstructionOf F → Registers
    → Registers
next_registers rules i r = if gives_row i then after_row rules r else r
