use Rattle.std.proofs.Common.{rules, tests, nat_lt}
use Rattle.std.proofs.lemmas.Iterator.{YieldsList-from_slice}
use Rattle.std.proofs.lemmas.Iterator.Search.{any_from_yields_List}
use Rattle.linemap_meaning.specs.Conditions.{depth, greatest_depth}
use Rattle.linemap_meaning.specs.TableViews.{function_part}
use Rattle.linemap_check.proofs.PartLists.{list_any_map}
use Rattle.linemap_check.proofs.functions.has_deep_calls.Goals as goal

pub returns : goal.returns
returns c =
    rw list_any_map
    (any_from_yields_List (λ x. let y = function_part x in nat_lt greatest_depth (depth y.calls)) _ _ _
    c.any.ensures.ran
    (YieldsList-from_slice c.args.functions.now cc) (λ x b q k. search (rules, tests)))
