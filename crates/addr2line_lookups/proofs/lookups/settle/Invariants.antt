use Rattle.std.proofs.Common.{length, drop}
use Rattle.addr2line_unit.specs.NumberedRanges.{covering_ranges}
use Rattle.addr2line_lookups.specs.KeptCalls.{known_among}
use Rattle.addr2line_lookups.proofs.AddressSearches.{Searched}
use Rattle.addr2line_lookups.proofs.lookups.settle.Given as goal

abbrev pub invariant-loop-unit : goal.invariant-loop-unit
invariant-loop-unit g l =
    let us = l.fn.units.items in
    let search = g.S.AddressSearch in
    Searched search.is_something (search.ask (known_among us l.supplement_units) l.probe) search.nothing
    l.supplement_units l.probe l.ranges us l.units.items l.from

abbrev pub decreases-loop-unit : goal.decreases-loop-unit
decreases-loop-unit g l = length (covering_ranges l.probe (drop l.from l.ranges))
