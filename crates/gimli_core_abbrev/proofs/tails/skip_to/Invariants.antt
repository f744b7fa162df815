use Rattle.std.proofs.Common.{◌-◌}
use Rattle.gimli_core_abbrev.specs.TableLayout.{IsListOf}
use Rattle.gimli_core_abbrev.proofs.tails.skip_to.Given as goal

-- the list, up to the declaration that was reached
abbrev pub invariant-loop-before : goal.invariant-loop-before
invariant-loop-before g l = IsListOf l.section l.list.value l.before (g.R.Reader.view l.input)

abbrev pub decreases-loop-before : goal.decreases-loop-before
decreases-loop-before g l = l.count - l.before
