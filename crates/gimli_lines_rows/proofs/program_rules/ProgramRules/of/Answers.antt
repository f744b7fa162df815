use Rattle.std.proofs.Common.{ℕ, ◌-◌, ◌/◌, ◌%◌, ap, ◌∙◌, arith}
use Rattle.std.proofs.lemmas.List.{length-set}
use Rattle.gimli_lines_machine.specs.Machine.{operation_advance}
use Rattle.gimli_lines_rows.proofs.SpecialOpcodes.{table_more}
use Rattle.gimli_lines_rows.proofs.program_rules.ProgramRules.of.Goals as goal

pub loop-opcode-preserved : goal.loop-opcode-preserved
loop-opcode-preserved g c =
    let rules = c.rules_of-rules.result in
    let was = c.loop-opcode.invariant in
    record {
      all_operations = length-set c.loop-opcode.operations c.loop-opcode.opcode _ ∙ was.all_operations;
      all_lines = length-set c.loop-opcode.lines c.loop-opcode.opcode _ ∙ was.all_lines;
      operations = table_more c.loop-opcode.operations c.loop-opcode.opcode _
          (λ (k : ℕ). operation_advance c.rules_of-rules.result k) (omega (arith, was.all_operations))
          (ap (λ (n : ℕ). n / c.rules_of-rules.result.line_encoding.line_range) c.saturating_sub-adjusted.ensures)
          was.operations;
      lines = table_more c.loop-opcode.lines c.loop-opcode.opcode _
          (λ (k : ℕ). (k - c.rules_of-rules.result.opcode_base) % c.rules_of-rules.result.line_encoding.line_range)
          (omega (arith, was.all_lines))
          (ap (λ (n : ℕ). n % c.rules_of-rules.result.line_encoding.line_range) c.saturating_sub-adjusted.ensures)
          was.lines;
    }
