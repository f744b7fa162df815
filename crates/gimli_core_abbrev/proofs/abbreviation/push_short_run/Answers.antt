use Rattle.std.proofs.Common.{◌*◌, [], ◌∷◌, Some, arith}
use Rattle.gimli_core_abbrev.specs.AbbreviationViews.{attribute_view, added_view}
use Rattle.gimli_core_abbrev.proofs.AddedAttributes.{extends_further, view_further}
use Rattle.gimli_core_abbrev.proofs.ReadFacts.{more_further}
use Rattle.gimli_core_abbrev.proofs.ShortRuns.{short_at, run_more}
use Rattle.gimli_core_abbrev.proofs.abbreviation.push_short_run.Goals as goal

pub pushing-preserved : goal.pushing-preserved
pushing-preserved c =
    let old = c.args.found.now.items in
    let now = c.pushing.list.items in
    let new = c.push_reserved.new.self.items in
    let was = c.pushing.invariant in
    record {
      extends = extends_further old now _ new was.extends c.push_reserved.ensures.items;
      within = omega arith;
      run = run_more c.args.bytes.now c.pushing.count old now new c.in-Some.attribute was.extends was.run
          c.push_reserved.ensures.items
          (short_at c.args.bytes.now (2 * c.pushing.count) (Some (attribute_view c.in-Some.attribute))
          (omega arith) c.in-Some.ensures);
      knows = more_further c.args.facts.now c.pushing.known c.with-known.result (added_view old now)
          (attribute_view c.in-Some.attribute ∷ []) (added_view old new) was.knows
          (record { fits = c.with-known.ensures.fits; knows = c.with-known.ensures.knows })
          (view_further old now new c.in-Some.attribute was.extends c.push_reserved.ensures.items);
      room = omega arith;
    }
