use Rattle.std.proofs.Common.{◌≡◌, ◌-◌}
use Rattle.gimli_lines_rows.proofs.Operands.{Spans}
use Rattle.gimli_lines_rows.proofs.parsing.split_operands.Given as goal

-- the operands so far, and then those that are left
abbrev pub invariant-loop-operand : goal.invariant-loop-operand
invariant-loop-operand g l =
    let view = g.R.Reader.view in
    Spans l.count (l.count - l._operand) (view l.fn.input) (view l.input) × (view l.operands ≡ view l.fn.input)
