use Rattle.std.proofs.Common.{◌≡◌, ℕ, ◌-◌, ◌<◌, ◌%◌, length, get_or}
use Rattle.gimli_lines_machine.specs.Machine.{operation_advance}
use Rattle.gimli_lines_rows.proofs.program_rules.ProgramRules.of.Given as goal

-- what the opcodes so far add
abbrev pub invariant-loop-opcode : goal.invariant-loop-opcode
invariant-loop-opcode g l = record {
  all_operations : length l.operations ≡ 256;
  all_lines : length l.lines ≡ 256;
  operations : (k : ℕ) → k < l.opcode → get_or l.operations k 0 ≡ operation_advance l.rules k;
  lines : (k : ℕ) → k < l.opcode
      → get_or l.lines k 0 ≡ (k - l.rules.opcode_base) % l.rules.line_encoding.line_range;
}
