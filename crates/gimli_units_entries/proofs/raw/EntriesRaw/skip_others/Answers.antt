use Rattle.std.proofs.Common.{◌≡◌, rules, w64, to_z, of_z}
use Rattle.std.proofs.lemmas.Int.{to_z-of_z}
use Rattle.gimli_units_entries.proofs.OtherEntryLemmas.{skipped_walk, skipped_within}
use Rattle.gimli_units_entries.proofs.raw.EntriesRaw.skip_others.Goals as goal

pub invariant_of-self : goal.invariant_of-self
invariant_of-self g c =
    let end : to_z w64 (of_z w64 c.others_after-count.result.1) ≡ c.others_after-count.result.1 =
    to_z-of_z w64 c.others_after-count.result.1 (search rules) in
    skipped_within _ _ _ _ _ c.self.invariant end c.advance.ensures c.others_after-count.ensures.fits

pub returns : goal.returns
returns g c =
    let start : to_z w64 (of_z w64 c.self.inside.depth) ≡ c.self.inside.depth =
    to_z-of_z w64 c.self.inside.depth (search rules) in
    let end : to_z w64 (of_z w64 c.others_after-count.result.1) ≡ c.others_after-count.result.1 =
    to_z-of_z w64 c.others_after-count.result.1 (search rules) in
    skipped_walk _ c.args.bound (to_z w64 (of_z w64 c.args.bound)) _ _ _ _ _ _ _
    (to_z-of_z w64 c.args.bound c.ranges.bound) start end c.self.view_is c.others_after-count.ensures.value
    c.advance.ensures
