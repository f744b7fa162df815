-- No call is lost, and those that are left to pass get fewer.
use Rattle.std.proofs.Common.{◌≡◌, ◌+◌}
use Rattle.linemap_check.specs.CallCounts.{call_count}
use Rattle.linemap_meaning.specs.TableViews.{calls_part}
use Rattle.linemap_check.proofs.dropping.joined.Given as goal

abbrev pub invariant-loop-first : goal.invariant-loop-first
invariant-loop-first l =
    call_count (calls_part l.above.items) + call_count (calls_part l.below.items)
    ≡ call_count (calls_part l.fn.above.items) + call_count (calls_part l.fn.below.items)

abbrev pub decreases-loop-first : goal.decreases-loop-first
decreases-loop-first l = call_count (calls_part l.below.items)
