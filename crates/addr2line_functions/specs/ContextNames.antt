-- The names of functions and calls in the units of a context (DWARF 5, 7.5.5 and 7.3.6).
use Rattle.std.specs.Prelude.{map, if◌then◌else◌}
use Rattle.addr2line_ranges.specs.Contexts.{FileContext}
use Rattle.addr2line_ranges.specs.InlinedCalls.{Naming}
use Rattle.addr2line_ranges.specs.Lookups.{FunctionsUnit, Namings}
use Rattle.addr2line_names.specs.EntryReferences.{KnownUnits, HoldingUnit}
use Rattle.addr2line_names.specs.FunctionNames.{name_with, name_by_reference, most_references}
use Rattle.addr2line_names.specs.declared.file.DebugFile.TheVariants.{Primary, Dwo}

-- the units that references may lead to
abbrev pub known_units : FileContext → KnownUnits
known_units c =
    record {
      units = map (λ u. u.facts) c.context.units;
      supplement_units = c.context.supplement_units;
    }

-- the unit of a function's entries, in the main file or in a split one
abbrev pub holding_unit : FunctionsUnit → HoldingUnit
holding_unit f = record { file = (if f.is_split then Dwo else Primary); unit = f.unit }

-- how the names of a unit's functions and calls are found, where references may lead to these units
abbrev pub naming_from : KnownUnits → HoldingUnit → Naming
naming_from known h = name_with h (name_by_reference known most_references h)

-- those of a context's functions and calls
abbrev pub naming_in : FileContext → Namings
naming_in c f = naming_from (known_units c) (holding_unit f)
