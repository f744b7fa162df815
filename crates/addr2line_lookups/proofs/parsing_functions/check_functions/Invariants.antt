-- The functions of the units before a number can be read and are kept, calls that are kept stay the definition's, and
-- no lines were read.
use Rattle.std.proofs.Common.{◌-◌, length, map}
use Rattle.addr2line_unit.specs.ResolvedUnits.{value_of_unit}
use Rattle.addr2line_lookups.specs.KeptUnits.{ReadsNoLines}
use Rattle.addr2line_lookups.specs.KeptCalls.{LeavesCalls}
use Rattle.addr2line_lookups.specs.UnitParses.{check_functions_of}
use Rattle.addr2line_lookups.proofs.UnitWalks.{HasWalked}
use Rattle.addr2line_lookups.proofs.KeptAhead.{FunctionsBelow}
use Rattle.addr2line_lookups.specs.LookupCosts.{AtMostLooks}
use Rattle.addr2line_lookups.proofs.parsing_functions.check_functions.Given as goal

abbrev pub invariant-loop-number : goal.invariant-loop-number
invariant-loop-number g l =
    HasWalked check_functions_of l.number (map value_of_unit l.fn.units.items) (map value_of_unit l.units.items)
    × LeavesCalls l.fn.units.items l.units.items
    × AtMostLooks 0 l.fn.units.items l.units.items
    × ReadsNoLines l.fn.units.items l.units.items
    × FunctionsBelow l.number l.units.items

abbrev pub decreases-loop-number : goal.decreases-loop-number
decreases-loop-number g l = length l.units.items - l.number
