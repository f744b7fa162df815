-- What is left is what was left at first. The lines of the units that were asked are kept; no others were read, and
-- nothing else. The looks that were taken are left no more. The walk comes to no other units.
use Rattle.std.proofs.Common.{◌≡◌, length, drop, map}
use Rattle.addr2line_unit.specs.NumberedRanges.{overlapping_ranges}
use Rattle.addr2line_unit.specs.ContextUnits.{unit_places}
use Rattle.addr2line_unit.specs.ResolvedUnits.{plain_unit}
use Rattle.addr2line_lookups.specs.LookupCosts.{WalksLines}
use Rattle.addr2line_lookups.specs.RangeWalks.{walk_left, walk_looks, StaysOnItsWay}
use Rattle.addr2line_lookups.proofs.AskedStretches.{AsksWalk}
use Rattle.addr2line_lookups.proofs.range_walk.next_stretch.Given as goal

abbrev pub invariant-range : goal.invariant-range
invariant-range g l =
    let us = map unit_places (map plain_unit l.fn.units.items) in record {
      change :
          WalksLines (walk_looks (map plain_unit l.fn.units.items) l.ranges l.fn.walk)
          (walk_looks (map plain_unit l.fn.units.items) l.ranges l.walk) l.fn.units.items l.units.items;
      left : walk_left us l.ranges l.walk ≡ walk_left us l.ranges l.fn.walk;
      asks : AsksWalk l.fn.units.items l.ranges l.fn.walk l.walk l.units.items;
      way : StaysOnItsWay l.ranges l.fn.walk l.walk;
    }

abbrev pub decreases-range : goal.decreases-range
decreases-range g l = length (overlapping_ranges l.walk.low l.walk.high (drop l.walk.next.index l.ranges))
