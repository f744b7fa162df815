-- What was read, and what the headers that are left give, is what all give.
use Rattle.std.proofs.Common.{◌≡◌, length}
use Rattle.addr2line_functions.specs.UnitHeaders.{units_to_come}
use Rattle.addr2line_functions.specs.UnitFacts.{unit_facts}
use Rattle.addr2line_functions.specs.Contexts.{readable_facts}
use Rattle.addr2line_unit.specs.ContextUnits.{readable_units}
use Rattle.addr2line_unit.proofs.UnitReading.{append_to, read_all, ok_of}
use Rattle.addr2line_unit.proofs.supplement.readable_units.Given as goal

abbrev pub invariant-loop-headers : goal.invariant-loop-headers
invariant-loop-headers g l =
    let limit = g.R.Offset.ReaderOffset.limit in
    append_to l.units.items
    (read_all (λ h. readable_facts (unit_facts l.dwarf.file h)) ok_of (units_to_come limit l.headers))
    ≡ readable_units l.dwarf.file

abbrev pub decreases-loop-headers : goal.decreases-loop-headers
decreases-loop-headers g l = length (units_to_come g.R.Offset.ReaderOffset.limit l.headers).items
