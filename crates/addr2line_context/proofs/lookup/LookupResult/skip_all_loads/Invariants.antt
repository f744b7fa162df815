-- The loads that are left become fewer, and what is found in the end stays the same.
use Rattle.addr2line_context.specs.Suspended.{SkipsTo}
use Rattle.addr2line_context.proofs.lookup.LookupResult.skip_all_loads.Given as goal

abbrev pub decreases-loop-output : goal.decreases-loop-output
decreases-loop-output g l = g.L.LookupContinuation.left l.wait

abbrev pub invariant-loop-output : goal.invariant-loop-output
invariant-loop-output g l =
    let skips_to = g.L.LookupContinuation.skips_to in
    (x : _) → skips_to l.wait x → SkipsTo skips_to l.fn.self x
