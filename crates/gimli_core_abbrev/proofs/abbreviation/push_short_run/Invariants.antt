use Rattle.std.proofs.Common.{◌+◌, ◌*◌, ◌≤◌, ◌-◌, length, vec_len, vec_capacity}
use Rattle.gimli_core_abbrev.specs.AbbreviationViews.{added_view, Extends}
use Rattle.gimli_core_abbrev.specs.DeclarationFacts.{KnowsMore}
use Rattle.gimli_core_abbrev.proofs.ShortRuns.{IsRun}
use Rattle.gimli_core_abbrev.proofs.abbreviation.push_short_run.Given as goal

-- the attributes so far, and room for the others
abbrev pub invariant-pushing : goal.invariant-pushing
invariant-pushing l = record {
  extends : Extends l.fn.found.items l.list.items;
  within : 2 * l.count ≤ length l.bytes;
  run : IsRun l.bytes l.count (added_view l.fn.found.items l.list.items);
  knows : KnowsMore l.fn.facts l.known (added_view l.fn.found.items l.list.items);
  room : vec_len l.list + l.most ≤ vec_capacity l.list + l.count;
}

abbrev pub decreases-pushing : goal.decreases-pushing
decreases-pushing l = l.most - l.count
