-- What is kept of units, and what lookups find of the unit of a number.
use Rattle.std.specs.Prelude.{◌≡◌, ◌≢◌, ◌⊎◌, ℕ, ◌<◌, Bool, true, false, List, [], ◌∷◌, slice_get, Option, Some, None, IfSome, is_some, option_and_then, Result, Ok, Err}
use Rattle.addr2line_unit.specs.Error.{Error}
use Rattle.addr2line_unit.specs.Error.TheVariants.{Memory}
use Rattle.addr2line_unit.specs.Results.{and_then}
use Rattle.addr2line_unit.specs.Lines.{LineRow, Location}
use Rattle.addr2line_unit.specs.Contexts.{ContextUnit, ranges_of, lines_of}
use Rattle.addr2line_unit.specs.PlaceLookups.{location_at}
use Rattle.addr2line_unit.specs.UnitRange.{UnitRange}
use Rattle.addr2line_unit.specs.NumberedRanges.{covering_ranges}
use Rattle.addr2line_unit.specs.ContextUnits.{ordered_ranges}
use Rattle.addr2line_unit.specs.KeptFunctions.{kept_at}
use Rattle.addr2line_unit.specs.ResolvedUnits.{ResolvedUnit, KeepsLines, row_or_refusal, location_of_row}
use Rattle.addr2line_lookups.specs.declared.settle.UnitRow.{UnitRow}

-- ---- kept lines

-- the lines of the unit of a number are kept, if there is such a unit
abbrev pub KeepsAt : List ResolvedUnit → ℕ → Type 0
KeepsAt us number = IfSome (slice_get us number) KeepsLines

-- those of all units that a call asks
abbrev pub KeepsAsked : (ℕ → Type 0) → List ResolvedUnit → Type 0
KeepsAsked asks us = (number : ℕ) → asks number → KeepsAt us number

-- what holds of the unit of a number, if there is such a unit, holds still
abbrev pub HoldsStill : (ResolvedUnit → Type 0) → List ResolvedUnit → List ResolvedUnit → Type 0
HoldsStill P old new =
    (number : ℕ) → IfSome (slice_get old number) P → IfSome (slice_get new number) P

-- lines that were kept before are kept still
abbrev pub KeepsMore : List ResolvedUnit → List ResolvedUnit → Type 0
KeepsMore old new = HoldsStill KeepsLines old new

-- lines that are kept were kept before, or are those of units that a call asks
abbrev pub ReadsAsked : (ℕ → Type 0) → List ResolvedUnit → List ResolvedUnit → Type 0
ReadsAsked asks old new = (number : ℕ) → KeepsAt new number → KeepsAt old number ⊎ asks number

-- no lines were read
abbrev pub ReadsNoLines : List ResolvedUnit → List ResolvedUnit → Type 0
ReadsNoLines old new = KeepsMore new old

-- the unit of a number is one of those of ranges
abbrev pub IsUnitOf : List UnitRange → ℕ → Type 0
IsUnitOf [] number = ⊥
IsUnitOf (r ∷ rs) number = (number ≡ r.unit) ⊎ IsUnitOf rs number

-- ---- kept functions

-- the functions of a unit were read and are kept, be it a refusal
abbrev pub KeepsFunctionList : ResolvedUnit → Type 0
KeepsFunctionList u = u.keeps_functions ≡ true

-- those of the unit of a number, if there is such a unit
abbrev pub KeepsFunctionsAt : List ResolvedUnit → ℕ → Type 0
KeepsFunctionsAt us number = IfSome (slice_get us number) KeepsFunctionList

-- functions that are kept were kept before, or are those of units that a call asks
abbrev pub ReadsAskedFunctions : (ℕ → Type 0) → List ResolvedUnit → List ResolvedUnit → Type 0
ReadsAskedFunctions asks old new =
    (number : ℕ) → KeepsFunctionsAt new number → KeepsFunctionsAt old number ⊎ asks number

-- no functions were read
abbrev pub ReadsNoFunctions : List ResolvedUnit → List ResolvedUnit → Type 0
ReadsNoFunctions old new = HoldsStill KeepsFunctionList new old

-- the calls of one of a unit's functions were read and are kept, be it a refusal
abbrev pub KeepsFunctionCalls : ℕ → ResolvedUnit → Type 0
KeepsFunctionCalls function u =
    KeepsFunctionList u × (is_some (kept_at u.calls function) ≡ true)

-- what was kept of a unit's functions is kept still
pub record KeepsMoreFunctions (old new : ResolvedUnit) : Type 0 where
  pub functions : KeepsFunctionList old → KeepsFunctionList new
  pub calls : (function : ℕ) → KeepsFunctionCalls function old → KeepsFunctionCalls function new

-- the same of units
pub record KeepMoreFunctions (old new : List ResolvedUnit) : Type 0 where
  pub functions : HoldsStill KeepsFunctionList old new
  pub calls : (function : ℕ) → HoldsStill (KeepsFunctionCalls function) old new

-- ---- places

-- the row of an address in the lines of a unit, if there is one, or the refusal of the lines
abbrev pub row_of_unit : ℕ → Option ContextUnit → Result (Option LineRow) Error
row_of_unit a None = Ok None
row_of_unit a (Some u) = row_or_refusal a u.lines

-- that of the unit of a number
abbrev pub row_at_number : List ContextUnit → ℕ → ℕ → Result (Option LineRow) Error
row_at_number units a number = row_of_unit a (slice_get units number)

-- a row ends a search, and so does a refusal
abbrev pub ends_with_row : Result (Option LineRow) Error → Bool
ends_with_row (Ok None) = false
ends_with_row (Ok (Some r)) = true
ends_with_row (Err e) = true

-- so does the unit of a number whose lines have a row of an address, or are refused
abbrev pub ends_with_row_at : List ContextUnit → ℕ → ℕ → Bool
ends_with_row_at units a number = ends_with_row (row_at_number units a number)

-- the place of a row in the lines of its unit
abbrev pub location_of_unit_row : List ContextUnit → UnitRow → Option Location
location_of_unit_row units r =
    option_and_then (λ u. location_of_row r.row u.lines) (slice_get units r.unit)

-- The place of an address is that of the row that was found, which is one of a unit's lines; there
-- is none where none was found.
abbrev pub FindsRow : List ContextUnit → ℕ → Result (Option UnitRow) Error → Type 0
FindsRow units a (Ok None) = location_at ranges_of lines_of units a ≡ Ok None
FindsRow units a (Ok (Some r)) =
    (location_at ranges_of lines_of units a ≡ Ok (location_of_unit_row units r))
    × (is_some (location_of_unit_row units r) ≡ true)
FindsRow units a (Err e) = e ≢ Memory → location_at ranges_of lines_of units a ≡ Err e

-- The unit of a number is one of those of ranges, up to the first whose lines have a row of an
-- address or are refused.
abbrev pub AsksAmong : List ContextUnit → ℕ → List UnitRange → ℕ → Type 0
AsksAmong units a [] number = ⊥
AsksAmong units a (r ∷ rs) number =
    (number ≡ r.unit)
    ⊎ ((row_at_number units a r.unit ≡ Ok None) × AsksAmong units a rs number)

-- a lookup of the place of an address asks the unit of a number
abbrev pub AsksForRow : List ContextUnit → ℕ → ℕ → Type 0
AsksForRow units a = AsksAmong units a (covering_ranges a (ordered_ranges units))

-- the lines of the unit whose row was found are kept
abbrev pub KeepsFound : List ResolvedUnit → Result (Option UnitRow) Error → Type 0
KeepsFound us (Ok (Some r)) = KeepsAt us r.unit
KeepsFound us _ = Unit {0}

-- ---- parsing ahead

-- whether the lines of a unit can be read, or the refusal of them
abbrev pub check_of : Option ContextUnit → Result (Unit {0}) Error
check_of None = Ok tt
check_of (Some u) = and_then u.lines (λ lines. Ok tt)

-- those of the unit of a number
abbrev pub check_at : List ContextUnit → ℕ → Result (Unit {0}) Error
check_at units number = check_of (slice_get units number)

-- the unit of a number comes no later than the first whose lines are refused
abbrev pub AsksForLines : List ContextUnit → ℕ → Type 0
AsksForLines units number = (n : ℕ) → n < number → check_at units n ≡ Ok tt
