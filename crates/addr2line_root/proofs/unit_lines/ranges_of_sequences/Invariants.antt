-- The ranges of the sequences so far.
use Rattle.std.proofs.Common.{◌≡◌, take, map}
use Rattle.addr2line_index.specs.Lines.{range_of}
use Rattle.addr2line_root.proofs.unit_lines.ranges_of_sequences.Given as goal

abbrev pub invariant-loop-sequence : goal.invariant-loop-sequence
invariant-loop-sequence l = l.ranges.items ≡ map range_of (take l.sequence-index l.sequences)
