-- The units of a context, and what lookups use of them.
use Rattle.std.specs.Prelude.{List, map, Option, Result, Ok}
use Rattle.std.specs.List.{filter_map}
use Rattle.addr2line_functions.specs.Error.{Error}
use Rattle.addr2line_functions.specs.Repetition.{fault_of}
use Rattle.addr2line_functions.specs.Results.{unless, ◌>>=◌}
use Rattle.addr2line_functions.specs.Tiling.{whole_section}
use Rattle.addr2line_functions.specs.UnitHeaders.{DebugUnit, next_unit}
use Rattle.addr2line_functions.specs.DwarfFiles.{DwarfFile}
use Rattle.addr2line_functions.specs.UnitFacts.{UnitFacts, unit_facts}
use Rattle.addr2line_functions.specs.Contexts.{ContextUnit, readable_facts, headers_of}
use Rattle.addr2line_functions.specs.UnitRange.{UnitRange}
use Rattle.addr2line_functions.specs.UnitPlaces.{UnitPlaces, ranges_in_order}

-- ---- reading

-- the first header of a file, if it has one
abbrev pub first_header : DwarfFile → Result (Option DebugUnit) Error
first_header file = do
  next ← next_unit file.offset_limit (whole_section file.sections.debug_info)
  Ok next.0

-- the units of a file that can be read, of types too, or the fault of a header
abbrev pub readable_units : DwarfFile → Result (List UnitFacts) Error
readable_units file =
    unless (fault_of (headers_of file))
    (Ok (filter_map (λ h. readable_facts (unit_facts file h)) (headers_of file).items))

-- ---- lookups

-- what lookups ask of a unit
abbrev pub unit_places : ContextUnit → UnitPlaces
unit_places u = record { ranges = u.ranges; lines = u.lines }

-- the ranges of units, in the order in which lookups ask them
abbrev pub ordered_ranges : List ContextUnit → List UnitRange
ordered_ranges units = ranges_in_order (map unit_places units)
