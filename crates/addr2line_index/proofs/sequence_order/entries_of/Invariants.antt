-- The entries so far, with those of the sequences that are left, are the whole.
use Rattle.std.proofs.Common.{◌≡◌, ◌++◌, drop, map}
use Rattle.addr2line_index.specs.SequenceOrders.{entry_of}
use Rattle.addr2line_index.proofs.sequence_order.entries_of.Given as goal

abbrev pub invariant-loop-sequence : goal.invariant-loop-sequence
invariant-loop-sequence l =
    l.entries.items ++ map entry_of (drop l.sequence-index l.sequences) ≡ map entry_of l.sequences
