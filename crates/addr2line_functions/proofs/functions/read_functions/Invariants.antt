-- The functions so far with those to come are all.
use Rattle.std.proofs.Common.{◌≡◌}
use Rattle.gimli_units_entries.specs.View.{bytes_left}
use Rattle.addr2line_ranges.specs.Functions.{functions_of_unit}
use Rattle.addr2line_functions.specs.NextFunctions.{functions_from}
use Rattle.addr2line_functions.proofs.FunctionEntrySteps.{functions_then}
use Rattle.addr2line_functions.proofs.functions.read_functions.Given as goal

abbrev pub invariant-loop-alloc : goal.invariant-loop-alloc
invariant-loop-alloc g l =
    let limit = g.R.Offset.ReaderOffset.limit in
    functions_then l.functions (functions_from limit l.unit l.entries)
    ≡ functions_of_unit l.unit

abbrev pub decreases-loop-alloc : goal.decreases-loop-alloc
decreases-loop-alloc g l = bytes_left l.entries.rest
