use Rattle.std.proofs.Common.{sym, ◌∙◌}
use Rattle.addr2line_functions.proofs.ChainSteps.{numbers_more, numbers_skip}
use Rattle.addr2line_functions.proofs.frames.last_call.Goals as goal

pub returns-in-Some-call_of_number : goal.returns-in-Some-call_of_number
returns-in-Some-call_of_number g c =
    c.loop-number.invariant
    ∙ numbers_more c.args.calls.now c.loop-number.left.now c.in-Some.before.now c.in-Some.number.now
    c.in-Some.ensures.cases.0 c.in-Some-call_of_number.call.now (sym c.in-Some-call_of_number.ensures)

pub loop-number-preserved : goal.loop-number-preserved
loop-number-preserved g c =
    c.loop-number.invariant
    ∙ numbers_skip c.args.calls.now c.loop-number.left.now c.in-Some.before.now c.in-Some.number.now
    c.in-Some.ensures.cases.0 (sym c.in_default-call_of_number.ensures)
