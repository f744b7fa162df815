-- The headers so far, and those to come, are the section's.
use Rattle.std.proofs.Common.{◌≡◌, length}
use Rattle.gimli_core.specs.Repetition.{prepend}
use Rattle.gimli_units.specs.Tiling.{whole_section}
use Rattle.gimli_units.specs.UnitHeaders.{units_to_come}
use Rattle.examples.proofs.units.unit_headers.Given as goal

abbrev pub invariant-loop-units : goal.invariant-loop-units
invariant-loop-units g l =
    let limit = g.R.Offset.ReaderOffset.limit in
    prepend l.headers.items (units_to_come limit l.units) ≡ units_to_come limit (whole_section l.section)

abbrev pub decreases-loop-units : goal.decreases-loop-units
decreases-loop-units g l = length (units_to_come g.R.Offset.ReaderOffset.limit l.units).items
