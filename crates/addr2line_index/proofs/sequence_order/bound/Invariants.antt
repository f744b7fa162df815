-- What was bounded, with what bounding makes of the rest, is the whole.
use Rattle.std.proofs.Common.{◌≡◌, ◌++◌, take, drop}
use Rattle.addr2line_index.specs.SequenceOrders.{with_greatest_ends}
use Rattle.addr2line_index.proofs.sequence_order.bound.Given as goal

abbrev pub invariant-loop-entry : goal.invariant-loop-entry
invariant-loop-entry l =
    take l.entry-index l.entries ++ with_greatest_ends l.greatest (drop l.entry-index l.entries)
    ≡ with_greatest_ends 0 l.fn.entries
