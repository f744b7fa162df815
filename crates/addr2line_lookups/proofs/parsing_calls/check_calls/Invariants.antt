-- The functions of the units before a number can be read with their calls and are kept with them, and calls that are
-- kept are the definition's; nothing was looked at, and no lines were read.
use Rattle.std.proofs.Common.{◌-◌, length, map}
use Rattle.addr2line_unit.specs.ResolvedUnits.{value_of_unit}
use Rattle.addr2line_lookups.specs.KeptUnits.{ReadsNoLines}
use Rattle.addr2line_lookups.specs.KeptCalls.{known_among, HoldCalls}
use Rattle.addr2line_lookups.specs.UnitParses.{check_calls_of}
use Rattle.addr2line_lookups.proofs.UnitWalks.{HasWalked}
use Rattle.addr2line_lookups.proofs.KeptAhead.{UnitsBelow}
use Rattle.addr2line_lookups.specs.LookupCosts.{AtMostLooks}
use Rattle.addr2line_lookups.proofs.parsing_calls.check_calls.Given as goal

abbrev pub invariant-loop-number : goal.invariant-loop-number
invariant-loop-number g l =
    let known = known_among l.fn.units.items l.supplement_units in
    HasWalked (check_calls_of known) l.number (map value_of_unit l.fn.units.items) (map value_of_unit l.units.items)
    × HoldCalls known l.units.items
    × AtMostLooks 0 l.fn.units.items l.units.items
    × ReadsNoLines l.fn.units.items l.units.items
    × UnitsBelow l.number l.units.items

abbrev pub decreases-loop-number : goal.decreases-loop-number
decreases-loop-number g l = length l.fn.units.items - l.number
