-- The sequences so far are counted.
use Rattle.std.proofs.Common.{◌≡◌, map}
use Rattle.addr2line_index.specs.LineIndexes.{counted_sequence}
use Rattle.addr2line_index.proofs.line_index.counted.Given as goal

abbrev pub invariant-loop-sequence : goal.invariant-loop-sequence
invariant-loop-sequence l = l.all.items ≡ map (counted_sequence l.probes.name) l.yielded
