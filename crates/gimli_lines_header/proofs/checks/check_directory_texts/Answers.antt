use Rattle.gimli_lines_header.specs.HeaderTables.{directory_texts}
use Rattle.gimli_lines_header.proofs.CheckSteps.{returns_fault, ending_next, checked_smaller, check_all_end, check_all_fault}
use Rattle.gimli_lines_header.proofs.TextSizes.{directory_text-shrinks}
use Rattle.gimli_lines_header.proofs.checks.check_directory_texts.Goals as goal

pub loop-preserved : goal.loop-preserved
loop-preserved g c = ending_next directory_text-shrinks _ _ _ _ c.if-branch.true c.in_ok-check_directory_text.ensures
    c.loop.invariant

pub loop-smaller : goal.loop-smaller
loop-smaller g c = checked_smaller directory_text-shrinks _ _ _ c.if-branch.true c.in_ok-check_directory_text.ensures

pub returns : goal.returns
unfolding directory_texts
returns g c = check_all_end directory_text-shrinks _ _ _ _ c.if-branch.false c.in_ok-check_directory_text.ensures
    c.loop.invariant

pub returns-in_err-check_directory_text : goal.returns-in_err-check_directory_text
unfolding directory_texts
returns-in_err-check_directory_text g c = returns_fault _ c.from_residual.result _ _ c.from_residual.ensures.1
    (check_all_fault directory_text-shrinks _ _ _ c.in_err-check_directory_text.ensures c.loop.invariant)
