use Rattle.std.proofs.Common.{◌≡◌, drop, find, map}
use Rattle.linemap_meaning.specs.Conditions.{breaks}
use Rattle.linemap_meaning.specs.TableViews.{unit_part}
use Rattle.linemap_check.proofs.rules.first_of.Given as goal

abbrev pub invariant-loop-rule : goal.invariant-loop-rule
invariant-loop-rule l =
    find (breaks (map unit_part l.units)) l.rules ≡ find (breaks (map unit_part l.units)) (drop l.rule-index l.rules)
