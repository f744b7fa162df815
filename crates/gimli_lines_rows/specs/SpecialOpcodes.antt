-- What the special opcodes of a program add, known before they are executed (DWARF 5, 6.2.5.1).
use Rattle.std.specs.Prelude.{◌≡◌, ◌<◌, ℕ, ◌-◌, ◌%◌, List, slice_index}
use Rattle.gimli_lines_machine.specs.declared.rules.LineRules.{LineRules}
use Rattle.gimli_lines_machine.specs.Machine.{IsSound, operation_advance}

-- By opcodes: how many operations each adds, and how many lines above line_base.
pub record HasAdvances (rules : LineRules) (operations lines : List ℕ) : Type 0 where
  pub is_sound : IsSound rules
  pub has_operations : (opcode : ℕ) → opcode < 256
      → slice_index operations opcode ≡ operation_advance rules opcode
  pub has_lines : (opcode : ℕ) → opcode < 256 → slice_index lines opcode
      ≡ (opcode - rules.opcode_base) % rules.line_encoding.line_range
