-- The loads that are listed, and those of the ranges that are left, that of each unit once, are all. Where there are
-- none, none are left.
use Rattle.std.proofs.Common.{◌≡◌, [], length, map}
use Rattle.addr2line_unit.specs.Lookups.{one_each}
use Rattle.addr2line_unit.specs.NumberedRanges.{covering_ranges}
use Rattle.addr2line_unit.specs.ResolvedUnits.{value_of_unit}
use Rattle.addr2line_lookups.specs.Preloads.{loads_at, load_of_item, AreNumbersOf}
use Rattle.addr2line_lookups.proofs.ListedLoads.{listed_first}
use Rattle.addr2line_lookups.proofs.preload.pending_loads.Given as goal

abbrev pub invariant-loop-range : goal.invariant-loop-range
invariant-loop-range g l =
    (listed_first (map load_of_item l.loads.items) (loads_at (map value_of_unit l.units) l.covering)
    ≡ one_each (loads_at (map value_of_unit l.units) (covering_ranges l.probe l.ranges)))
    × AreNumbersOf (map load_of_item l.loads.items) l.numbers
    × (loads_at (map value_of_unit l.units) (covering_ranges l.probe l.ranges) ≡ []
    → loads_at (map value_of_unit l.units) l.covering ≡ [])

abbrev pub decreases-loop-range : goal.decreases-loop-range
decreases-loop-range g l = length l.covering
