-- Those of the runs so far.
use Rattle.std.proofs.Common.{◌≡◌, take}
use Rattle.addr2line_index.specs.SharedRanges.{shared_of_runs}
use Rattle.addr2line_index.proofs.unit_ranges.shared_ranges.Given as goal

abbrev pub invariant-loop-run : goal.invariant-loop-run
invariant-loop-run l = l.all.items ≡ shared_of_runs (take l.run-index l.runs)
