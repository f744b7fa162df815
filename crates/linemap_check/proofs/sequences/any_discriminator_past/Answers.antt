use Rattle.std.proofs.Common.{rules, tests}
use Rattle.std.proofs.lemmas.Iterator.{YieldsList-from_slice}
use Rattle.std.proofs.lemmas.Iterator.Search.{any_from_yields_List}
use Rattle.linemap_meaning.specs.Conditions.{is_bad_discriminator}
use Rattle.linemap_meaning.specs.TableViews.{row_part}
use Rattle.linemap_check.proofs.PartLists.{list_any_map}
use Rattle.linemap_check.proofs.sequences.any_discriminator_past.Goals as goal

pub returns : goal.returns
returns c =
    rw list_any_map
    (any_from_yields_List (λ x. let y = row_part x in is_bad_discriminator y.discriminator) _ _ _ c.any.ensures.ran
    (YieldsList-from_slice c.args.rows.now cc) (λ x b q k. search (rules, tests)))
