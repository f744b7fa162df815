use Rattle.gimli_core_readers.specs.View.{bytes_left}
use Rattle.gimli_core_abbrev.specs.AbbreviationViews.{added_view}
use Rattle.gimli_core_abbrev.specs.DeclarationFacts.{KnowsMore}
use Rattle.gimli_core_abbrev.proofs.ShortRuns.{ReadSoFar}
use Rattle.gimli_core_abbrev.proofs.abbreviation.parse_attributes.Given as goal

-- the attributes so far, and then those that are left
abbrev pub invariant-pushing : goal.invariant-pushing
invariant-pushing g l = record {
  read : ReadSoFar l.fn.found.items l.found.items l.fn.input l.input;
  knows : KnowsMore l.fn.facts l.facts (added_view l.fn.found.items l.found.items);
}

abbrev pub decreases-pushing : goal.decreases-pushing
decreases-pushing g l = bytes_left l.input
