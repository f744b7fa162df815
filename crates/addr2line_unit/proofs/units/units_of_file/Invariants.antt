-- What was read, and what the headers that are left give, is what all give. Lines are kept only where the ranges are
-- those of the lines, and no functions are. The last ranges are some of the file.
use Rattle.std.proofs.Common.{◌≡◌, length, map}
use Rattle.addr2line_functions.specs.UnitHeaders.{units_to_come}
use Rattle.addr2line_functions.specs.UnitFacts.{in_file}
use Rattle.addr2line_functions.specs.Contexts.{facts_of_code_unit}
use Rattle.addr2line_root.specs.LastRanges.{AreLastOf}
use Rattle.addr2line_unit.specs.ResolvedUnits.{value_of_unit, new_unit, new_units, KeepNoFunctions, RunForRangesAlone}
use Rattle.addr2line_unit.proofs.UnitReading.{append_to, read_all}
use Rattle.addr2line_unit.proofs.units.units_of_file.Given as goal

abbrev pub invariant-loop-headers : goal.invariant-loop-headers
invariant-loop-headers g l =
    let limit = g.R.Offset.ReaderOffset.limit in
    record {
      units : append_to (map value_of_unit l.units.items)
          (read_all (facts_of_code_unit l.sections.value.file) (λ u. new_unit (in_file l.sections.value.file u))
          (units_to_come limit l.headers))
          ≡ new_units l.sections.value.file;
      lines : RunForRangesAlone l.units.items;
      functions : KeepNoFunctions l.units.items;
      last : AreLastOf l.sections.value.file l.last;
    }

abbrev pub decreases-loop-headers : goal.decreases-loop-headers
decreases-loop-headers g l = length (units_to_come g.R.Offset.ReaderOffset.limit l.headers).items
