use Rattle.std.proofs.Common.{◌*◌, Some, arith}
use Rattle.gimli_core_abbrev.specs.AbbreviationViews.{attribute_view}
use Rattle.gimli_core_abbrev.proofs.ShortRuns.{short_at}
use Rattle.gimli_core_abbrev.proofs.SkippedAttributes.{ends_further}
use Rattle.gimli_core_abbrev.proofs.abbreviation.short_run.Goals as goal

pub counting-preserved : goal.counting-preserved
counting-preserved c =
    let was = c.counting.invariant in
    record {
      within = omega arith;
      run = ends_further c.args.bytes.now c.counting.run (attribute_view c.in-Some._attribute) was.run
          (short_at c.args.bytes.now (2 * c.counting.run) (Some (attribute_view c.in-Some._attribute)) (omega arith)
          c.in-Some.ensures);
    }
