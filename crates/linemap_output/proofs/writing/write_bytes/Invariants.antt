use Rattle.std.proofs.Common.{◌≡◌, ◌<◌, ◌-◌, ◌+◌, ◌*◌, ◌++◌, ℕ, List, length}
use Rattle.std.specs.Io.KnownBytes.{Appends}
use Rattle.linemap_output.proofs.writing.write_bytes.Given as goal

-- what was written and the rest are the text, and more interruptions are allowed
abbrev pub invariant-write : goal.invariant-write
invariant-write g l = record {
  prefix_written : (prefix : List ℕ) × Appends (g.W.Write.contents l.fn.out) (g.W.Write.contents l.out) prefix
      × (prefix ++ l.rest ≡ l.bytes);
  tries_left : l.interruptions < 1000;
}

-- each write takes a byte, and each interruption one of the tries
abbrev pub decreases-write : goal.decreases-write
decreases-write g l = length l.rest * 1000 + (1000 - l.interruptions)
