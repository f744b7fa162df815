use Rattle.std.proofs.Common.{rules, tests, ◌∙◌, sym, map}
use Rattle.std.proofs.lemmas.Iterator.{YieldsList-from_slice}
use Rattle.std.proofs.lemmas.Iterator.Search.{any_from_yields_List}
use Rattle.linemap_check.specs.UnitRules.{unit_breaks}
use Rattle.linemap_meaning.specs.TableViews.{unit_part}
use Rattle.linemap_check.proofs.PartLists.{list_any_map}
use Rattle.linemap_check.proofs.RuleLemmas.{breaks_units}
use Rattle.linemap_check.proofs.rules.breaks.Goals as goal

pub returns : goal.returns
returns c =
    any_from_yields_List (λ u. unit_breaks c.args.rule (unit_part u)) _ _ _ c.any.ensures.ran
    (YieldsList-from_slice c.args.units.now cc) (λ x b q k. search (rules, tests))
    ∙ sym (list_any_map (unit_breaks c.args.rule) unit_part c.args.units.now)
    ∙ sym (breaks_units (map unit_part c.args.units.now) c.args.rule c.in_default.not-UnitsOverlap)
