use Rattle.std.proofs.Common.{map, rules}
use Rattle.linemap_meaning.specs.TableViews.{range_part}
use Rattle.linemap_check.proofs.RuleLemmas.{any_outside_functions}
use Rattle.linemap_check.proofs.units.has_function_outside.Goals as goal

pub returns : goal.returns
returns c =
    rw (← any_outside_functions (map range_part c.args.unit.now.ranges.items) c.args.unit.now.functions.items)
    (search rules)
