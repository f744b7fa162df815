use Rattle.std.proofs.Common.{ap, arith}
use Rattle.linemap_check.specs.CallCounts.{call_count}
use Rattle.linemap_meaning.specs.TableViews.{calls_part}
use Rattle.linemap_check.proofs.NestedCallLemmas.{call_count-last}
use Rattle.linemap_check.proofs.dropping.drop_calls.Goals as goal

pub loop-call-smaller : goal.loop-call-smaller
loop-call-smaller c =
    let last = ap (λ cs. call_count (calls_part cs)) c.in-Some.ensures.items in
    omega (arith, last, c.joined-calls.ensures, call_count-last c.pop.new.self.items c.in-Some.call)
