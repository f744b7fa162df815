-- the loads are those from the index on
use Rattle.std.proofs.Common.{length, map, drop}
use Rattle.addr2line_unit.specs.NumberedRanges.{covering_ranges}
use Rattle.addr2line_unit.specs.ResolvedUnits.{value_of_unit}
use Rattle.addr2line_lookups.specs.PassedUnits.{PassLoads}
use Rattle.addr2line_lookups.proofs.waiting.first_waiting.Given as goal

abbrev pub invariant-loop-unit : goal.invariant-loop-unit
invariant-loop-unit g l = PassLoads (map value_of_unit l.units) l.probe l.place l.ranges

abbrev pub decreases-loop-unit : goal.decreases-loop-unit
decreases-loop-unit g l = length (covering_ranges l.probe (drop l.place l.ranges))
