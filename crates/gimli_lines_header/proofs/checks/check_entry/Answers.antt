use Rattle.std.proofs.Common.{arith}
use Rattle.std.proofs.lemmas.List.{get_or_default}
use Rattle.gimli_lines_header.proofs.CheckSteps.{returns_fault}
use Rattle.gimli_lines_header.proofs.EntryChecks.{fields_next, fields_refused, fields_over}
use Rattle.gimli_lines_header.proofs.checks.check_entry.Goals as goal

pub loop-format-preserved : goal.loop-format-preserved
loop-format-preserved g c =
    fields_next _ c.args.encoding c.args.formats.now c.loop-format.format-index _ _ _ _ (omega arith)
    (get_or_default c.args.formats.now c.loop-format.format-index _ _ (omega arith)) c.in_ok-check_value.ensures
    c.loop-format.invariant

pub returns-in_err-check_value : goal.returns-in_err-check_value
returns-in_err-check_value g c =
    returns_fault _ c.from_residual.result _ _ c.from_residual.ensures.1
    (fields_refused _ c.args.encoding c.args.formats.now c.loop-format.format-index _ _ _ _ (omega arith)
    (get_or_default c.args.formats.now c.loop-format.format-index _ _ (omega arith)) c.in_err-check_value.ensures
    c.loop-format.invariant)

pub returns : goal.returns
returns g c = fields_over _ c.args.encoding c.args.formats.now c.loop-format.format-index _ _ (omega arith)
    c.loop-format.invariant
