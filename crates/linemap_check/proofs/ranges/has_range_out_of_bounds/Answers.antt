use Rattle.std.proofs.Common.{rules, tests}
use Rattle.std.proofs.lemmas.Iterator.{YieldsList-from_slice}
use Rattle.std.proofs.lemmas.Iterator.Search.{any_from_yields_List}
use Rattle.linemap_meaning.specs.Conditions.{range_out_of_bounds}
use Rattle.linemap_meaning.specs.TableViews.{range_part}
use Rattle.linemap_check.proofs.PartLists.{list_any_map}
use Rattle.linemap_check.proofs.ranges.has_range_out_of_bounds.Goals as goal

pub returns : goal.returns
returns c =
    rw list_any_map
    (any_from_yields_List (λ r. range_out_of_bounds (range_part r)) _ _ _ c.any.ensures.ran
    (YieldsList-from_slice c.args.ranges.now cc) (λ x b q k. search (rules, tests)))
