use Rattle.std.proofs.Common.{rules, arith, sym, subst, ap, ◌∙◌}
use Rattle.gimli_lines_machine.specs.View.{View}
use Rattle.gimli_lines_machine.proofs.RefusedCalls.{returns_refused}
use Rattle.gimli_lines_machine.proofs.StepParts.{read}
use Rattle.gimli_lines_machine.specs.Readers.{Holds}
use Rattle.gimli_lines_rows.proofs.Operands.{spans_start, spans_more, spans_fault, spans_end, truncated_is, truncated_not_refused, refused_as}
use Rattle.gimli_lines_rows.proofs.parsing.split_operands.Goals as goal

pub loop-operand-init : goal.loop-operand-init
loop-operand-init g c = (spans_start _ _, search rules)

pub loop-operand-preserved : goal.loop-operand-preserved
loop-operand-preserved g c = (
  spans_more c.args.count c.loop-operand._operand _ _ _ _ (omega arith) c.in_ok-read_uleb128.ensures
      c.loop-operand.invariant.0,
  c.loop-operand.invariant.1,
)

pub returns-in_err-read_uleb128 : goal.returns-in_err-read_uleb128
returns-in_err-read_uleb128 g c =
    let fault =
    spans_fault c.args.count c.loop-operand._operand _ _ _ (omega arith) c.in_err-read_uleb128.ensures.0
    c.loop-operand.invariant.0 in
    record {
      value = returns_refused _ c.from_residual-in_err-read_uleb128.result _ _
          c.from_residual-in_err-read_uleb128.ensures.1 (λ ne. fault);
      free = λ copies. refused_as _ c.from_residual-in_err-read_uleb128.result _ _
          c.from_residual-in_err-read_uleb128.ensures.1 fault;
    }

pub offset_from-len-requires : goal.offset_from-len-requires
offset_from-len-requires g c =
    let view = g.R.Reader.view in
    subst (λ (v : View). Holds v (view c.loop-operand.input)) (sym c.loop-operand.invariant.1)
    c.loop-operand.invariant.0.holds

pub returns-in_err-truncate : goal.returns-in_err-truncate
returns-in_err-truncate g c =
    let view = g.R.Reader.view in
    absurd (truncated_not_refused (view c.args.input.now) (view c.loop-operand.input) _ _ _ c.loop-operand.invariant.1
    c.loop-operand.invariant.0.holds c.offset_from-len.ensures c.in_err-truncate.ensures.0)

pub returns : goal.returns
returns g c =
    let view = g.R.Reader.view in
    let all =
    spans_end c.args.count c.loop-operand._operand _ _ (omega arith) c.loop-operand.invariant.0
    ∙ ap (λ (w : View). read w (view c.loop-operand.input))
    (truncated_is (view c.args.input.now) (view c.loop-operand.input) _ _ _ c.loop-operand.invariant.1
    c.loop-operand.invariant.0.holds c.offset_from-len.ensures c.in_ok-truncate.ensures) in
    record { value = all; free = λ copies. all }
