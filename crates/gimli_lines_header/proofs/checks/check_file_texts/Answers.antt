use Rattle.gimli_lines_header.specs.HeaderTables.{file_texts}
use Rattle.gimli_lines_header.proofs.CheckSteps.{returns_fault, ending_next, checked_smaller, check_all_end, check_all_fault}
use Rattle.gimli_lines_header.proofs.TextSizes.{file_text-shrinks}
use Rattle.gimli_lines_header.proofs.checks.check_file_texts.Goals as goal

pub loop-preserved : goal.loop-preserved
loop-preserved g c = ending_next file_text-shrinks _ _ _ _ c.if-branch.true c.in_ok-check_file_text.ensures
    c.loop.invariant

pub loop-smaller : goal.loop-smaller
loop-smaller g c = checked_smaller file_text-shrinks _ _ _ c.if-branch.true c.in_ok-check_file_text.ensures

pub returns : goal.returns
unfolding file_texts
returns g c = check_all_end file_text-shrinks _ _ _ _ c.if-branch.false c.in_ok-check_file_text.ensures
    c.loop.invariant

pub returns-in_err-check_file_text : goal.returns-in_err-check_file_text
unfolding file_texts
returns-in_err-check_file_text g c = returns_fault _ c.from_residual.result _ _ c.from_residual.ensures.1
    (check_all_fault file_text-shrinks _ _ _ c.in_err-check_file_text.ensures c.loop.invariant)
