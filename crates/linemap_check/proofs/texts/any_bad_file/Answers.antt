use Rattle.std.proofs.Common.{rules, tests, ◌||◌}
use Rattle.std.proofs.lemmas.Iterator.{YieldsList-from_slice}
use Rattle.std.proofs.lemmas.Iterator.Search.{any_from_yields_List}
use Rattle.linemap_meaning.specs.Conditions.{is_bad_text}
use Rattle.linemap_meaning.specs.TableViews.{file_part}
use Rattle.linemap_check.proofs.PartLists.{list_any_map}
use Rattle.linemap_check.proofs.texts.any_bad_file.Goals as goal

pub returns : goal.returns
returns c =
    rw list_any_map
    (any_from_yields_List (λ x. let y = file_part x in is_bad_text y.directory || is_bad_text y.name) _ _ _
    c.any.ensures.ran (YieldsList-from_slice c.args.files.now cc) (λ x b q k. search (rules, tests)))
