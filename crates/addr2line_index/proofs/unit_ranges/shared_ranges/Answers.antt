use Rattle.std.proofs.Common.{sym}
use Rattle.addr2line_index.proofs.SharedRangeLemmas.{shared_of_runs-more}
use Rattle.addr2line_index.proofs.unit_ranges.shared_ranges.Goals as goal

pub loop-run-preserved : goal.loop-run-preserved
loop-run-preserved c =
    rw (c.in_ok-push_shared.ensures.ok, c.loop-run.invariant)
    (sym (shared_of_runs-more c.args.runs.now c.loop-run.run-index _ c.loop-run-test.true))
