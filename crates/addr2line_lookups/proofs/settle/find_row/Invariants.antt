-- The answer is that of the ranges that are left, the units' values are the same, and calls that are kept stay the
-- definition's. Looks are left for the ranges that are left. The lines of the units that were asked are kept, and no
-- others were read, nor any functions.
use Rattle.std.proofs.Common.{◌≡◌, length, map}
use Rattle.addr2line_unit.specs.PlaceLookups.{location_at}
use Rattle.addr2line_unit.specs.Contexts.{ranges_of, lines_of}
use Rattle.addr2line_unit.specs.RangeIndexLaws.{answer_from}
use Rattle.addr2line_unit.specs.ContextUnits.{unit_places}
use Rattle.addr2line_unit.specs.ResolvedUnits.{plain_unit, value_of_unit}
use Rattle.addr2line_lookups.specs.KeptUnits.{ReadsNoFunctions}
use Rattle.addr2line_lookups.specs.KeptCalls.{LeavesCalls}
use Rattle.addr2line_unit.specs.NumberedRanges.{covering_ranges}
use Rattle.addr2line_lookups.proofs.AskedLines.{AsksRanges}
use Rattle.addr2line_lookups.proofs.UnitProbes.{LooksLeft}
use Rattle.addr2line_lookups.proofs.LookupProbes.{row_probes_among}
use Rattle.addr2line_lookups.proofs.settle.find_row.Given as goal

abbrev pub invariant-loop-range : goal.invariant-loop-range
invariant-loop-range g l =
    let us = map plain_unit l.fn.units.items in
    (map value_of_unit l.units.items ≡ map value_of_unit l.fn.units.items)
    × (location_at ranges_of lines_of us l.probe ≡ answer_from (map unit_places us) l.probe l.covering)
    × LeavesCalls l.fn.units.items l.units.items
    × LooksLeft (row_probes_among l.fn.units.items l.probe (covering_ranges l.probe l.ranges))
    (row_probes_among l.fn.units.items l.probe l.covering) l.fn.units.items l.units.items
    × AsksRanges l.probe l.fn.units.items (covering_ranges l.probe l.ranges) l.covering l.units.items
    × ReadsNoFunctions l.fn.units.items l.units.items

abbrev pub decreases-loop-range : goal.decreases-loop-range
decreases-loop-range g l = length l.covering
