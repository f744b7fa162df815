use Rattle.std.proofs.Common.{rules, tests}
use Rattle.std.proofs.lemmas.Iterator.{YieldsList-from_slice}
use Rattle.std.proofs.lemmas.Iterator.Search.{any_from_yields_List}
use Rattle.std.specs.List.{list_any}
use Rattle.linemap_meaning.specs.Conditions.{is_bad_discriminator}
use Rattle.linemap_meaning.specs.TableViews.{sequence_part}
use Rattle.linemap_check.proofs.PartLists.{list_any_map}
use Rattle.linemap_check.proofs.sequences.any_bad_discriminator.Goals as goal

pub returns : goal.returns
returns c =
    rw list_any_map
    (any_from_yields_List
    (λ x. let y = sequence_part x in list_any (λ r. is_bad_discriminator r.discriminator) y.rows)
    _ _ _ c.any.ensures.ran (YieldsList-from_slice c.args.sequences.now cc) (λ x b q k. search (rules, tests)))
