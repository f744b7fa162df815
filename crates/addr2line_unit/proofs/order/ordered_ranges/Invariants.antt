-- The ranges of the units so far.
use Rattle.std.proofs.Common.{◌≡◌}
use Rattle.addr2line_functions.specs.NumberedRanges.{ranges_of_units}
use Rattle.addr2line_unit.proofs.UnitOrder.{ranges_to}
use Rattle.addr2line_unit.proofs.order.ordered_ranges.Given as goal

abbrev pub invariant-loop-number : goal.invariant-loop-number
invariant-loop-number g l = l.builder ≡ ranges_of_units (ranges_to l.number l.units)
