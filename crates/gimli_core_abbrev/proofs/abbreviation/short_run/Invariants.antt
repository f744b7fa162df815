use Rattle.std.proofs.Common.{◌*◌, ◌-◌, ◌≤◌, length}
use Rattle.gimli_core_abbrev.proofs.SkippedAttributes.{EndsAfter}
use Rattle.gimli_core_abbrev.proofs.abbreviation.short_run.Given as goal

-- the attributes so far
abbrev pub invariant-counting : goal.invariant-counting
invariant-counting l = record {
  within : 2 * l.run ≤ length l.bytes;
  run : EndsAfter l.bytes l.run;
}

abbrev pub decreases-counting : goal.decreases-counting
decreases-counting l = l.pairs - l.run
