-- What was there, with the ranges so far.
use Rattle.std.proofs.Common.{◌≡◌, ◌++◌, take, map}
use Rattle.addr2line_index.proofs.unit_ranges.push_shared.Given as goal

abbrev pub invariant-loop-range : goal.invariant-loop-range
invariant-loop-range l =
    l.all.items
    ≡ l.initial.all.items
    ++ map (λ r. record { range = r; first = l.run.first; last = l.run.last }) (take l.range-index l.run.ranges.now)
