use Rattle.std.proofs.Common.{◌<◌, ◌-◌}
use Rattle.std.specs.Io.KnownBytes.{Keeps}
use Rattle.linemap_output.proofs.writing.flush.Given as goal

-- what the writer holds stays, and more interruptions are allowed
abbrev pub invariant-flush : goal.invariant-flush
invariant-flush g l = record {
  keeps : Keeps (g.W.Write.contents l.fn.out) (g.W.Write.contents l.out);
  tries_left : l.interruptions < 1000;
}

abbrev pub decreases-flush : goal.decreases-flush
decreases-flush g l = 1000 - l.interruptions
