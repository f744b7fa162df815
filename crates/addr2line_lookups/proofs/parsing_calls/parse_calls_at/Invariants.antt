-- The calls of the functions before a number can be read and are kept, what is kept is the definition's, nothing was
-- looked at, and no lines were read.
use Rattle.std.proofs.Common.{◌≡◌, ◌-◌, map}
use Rattle.addr2line_unit.specs.ResolvedUnits.{value_of_unit}
use Rattle.addr2line_lookups.specs.KeptUnits.{ReadsNoLines}
use Rattle.addr2line_lookups.specs.KeptCalls.{known_among, HoldCalls}
use Rattle.addr2line_lookups.specs.FunctionPlaces.{count_at}
use Rattle.addr2line_lookups.proofs.KeptCallsAt.{PassBelow}
use Rattle.addr2line_lookups.specs.LookupCosts.{AtMostLooks}
use Rattle.addr2line_lookups.proofs.KeptAhead.{CallsBelow}
use Rattle.addr2line_lookups.proofs.parsing_calls.parse_calls_at.Given as goal

abbrev pub invariant-loop-function : goal.invariant-loop-function
invariant-loop-function g l =
    (map value_of_unit l.units.items ≡ map value_of_unit l.fn.units.items)
    × HoldCalls (known_among l.fn.units.items l.supplement_units) l.units.items
    × (count_at l.units.items l.number ≡ l.count)
    × PassBelow l.supplement_units l.fn.units.items l.number l.function
    × AtMostLooks 0 l.fn.units.items l.units.items
    × ReadsNoLines l.fn.units.items l.units.items
    × CallsBelow l.units.items l.number l.function

abbrev pub decreases-loop-function : goal.decreases-loop-function
decreases-loop-function g l = l.count - l.function
