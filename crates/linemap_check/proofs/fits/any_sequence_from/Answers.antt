use Rattle.std.proofs.Common.{rules, tests, nat_le, ◌||◌}
use Rattle.std.proofs.lemmas.Iterator.{YieldsList-from_slice}
use Rattle.std.proofs.lemmas.Iterator.Search.{any_from_yields_List}
use Rattle.std.specs.List.{list_any}
use Rattle.linemap_meaning.specs.TableViews.{sequence_part}
use Rattle.linemap_check.proofs.PartLists.{list_any_map}
use Rattle.linemap_check.proofs.fits.any_sequence_from.Goals as goal

pub returns : goal.returns
returns c =
    rw list_any_map
    (any_from_yields_List
    (λ x. let y = sequence_part x in list_any (λ r. nat_le c.args.limit r.address) y.rows || nat_le c.args.limit y.end)
    _ _ _ c.any.ensures.ran (YieldsList-from_slice c.args.sequences.now cc) (λ x b q k. search (rules, tests)))
