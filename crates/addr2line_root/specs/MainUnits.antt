-- Units of a main file as they are kept: whole, or bare until more of them is asked for.
use Rattle.std.specs.Prelude.{◌≡◌, Bool, true, false, None}
use Rattle.gimli_dwarf.specs.UnitFacts.{UnitInFile}
use Rattle.gimli_dwarf.specs.WholeUnits.{IsBareIn, whole_unit}
use Rattle.addr2line_root.specs.CountedRuns.{CountedUnit}

-- the whole unit with the counter of its runs, and whether it is kept whole
pub record MainUnit : Type 0 where
  pub counted : CountedUnit
  pub is_whole : Bool

-- the unit of which this is kept
abbrev pub unit_of_kept : Bool → UnitInFile → UnitInFile
unit_of_kept true u = u
unit_of_kept false u = whole_unit u

-- with its counter
abbrev pub counted_of_kept : Bool → CountedUnit → CountedUnit
counted_of_kept is_whole u = record u { unit = unit_of_kept is_whole u.unit }

-- what is kept of a bare unit; a unit that has a split part is kept whole
pub record IsKeptBare (u : UnitInFile) : Type 0 where
  pub is_bare : IsBareIn u.file u.facts
  pub has_no_id : u.facts.dwo_id ≡ None

-- what is kept of a unit
abbrev pub IsKeptUnit : Bool → UnitInFile → Type 0
IsKeptUnit true u = Unit {0}
IsKeptUnit false u = IsKeptBare u
