use Rattle.std.proofs.Common.{rules, tests, nat_le}
use Rattle.std.proofs.lemmas.Iterator.{YieldsList-from_slice}
use Rattle.std.proofs.lemmas.Iterator.Search.{any_from_yields_List}
use Rattle.linemap_meaning.specs.EncodingFits.{any_address}
use Rattle.linemap_meaning.specs.TableViews.{unit_part}
use Rattle.linemap_check.proofs.PartLists.{list_any_map}
use Rattle.linemap_check.proofs.fits.any_unit_from.Goals as goal

pub returns : goal.returns
returns c =
    rw list_any_map
    (any_from_yields_List
    (λ x. let y = unit_part x in any_address (nat_le c.args.limit) y) _ _ _ c.any.ensures.ran
    (YieldsList-from_slice c.args.units.now cc) (λ x b q k. search (rules, tests)))
