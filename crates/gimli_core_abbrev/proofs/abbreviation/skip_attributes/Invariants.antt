use Rattle.std.proofs.Common.{◌≡◌}
use Rattle.gimli_core_readers.specs.View.{bytes_left}
use Rattle.gimli_core_abbrev.proofs.SkippedAttributes.{ending_from}
use Rattle.gimli_core_abbrev.proofs.abbreviation.skip_attributes.Given as goal

-- what ends the attributes is what ends those that are left
abbrev pub invariant-skipping : goal.invariant-skipping
invariant-skipping g l = let view = g.R.Reader.view in ending_from (view l.input) ≡ ending_from (view l.fn.input)

abbrev pub decreases-skipping : goal.decreases-skipping
decreases-skipping g l = bytes_left (g.R.Reader.view l.input)
