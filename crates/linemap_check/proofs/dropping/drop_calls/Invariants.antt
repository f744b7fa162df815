-- The calls that are left get fewer.
use Rattle.linemap_check.specs.CallCounts.{call_count}
use Rattle.linemap_meaning.specs.TableViews.{calls_part}
use Rattle.linemap_check.proofs.dropping.drop_calls.Given as goal

abbrev pub decreases-loop-call : goal.decreases-loop-call
decreases-loop-call l = call_count (calls_part l.calls.items)
