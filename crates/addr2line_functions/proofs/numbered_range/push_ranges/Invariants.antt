-- What was there, with the ranges so far.
use Rattle.std.proofs.Common.{◌≡◌, ◌++◌, take}
use Rattle.addr2line_functions.specs.RangesByNumber.{of_number}
use Rattle.addr2line_functions.proofs.numbered_range.push_ranges.Given as goal

abbrev pub invariant-loop-range : goal.invariant-loop-range
invariant-loop-range l =
    l.all.items ≡ l.initial.all.items ++ of_number l.depth l.number (take l.range-index l.ranges)
