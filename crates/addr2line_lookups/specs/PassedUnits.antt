-- How far a lookup of an address came among the ranges of all units. These are in the order in
-- which lookups ask their units.
use Rattle.std.specs.Prelude.{◌≡◌, ◌⊎◌, ℕ, List, [], ◌∷◌, ◌++◌, drop, map, All, None, Ok}
use Rattle.addr2line_unit.specs.Range.{Range}
use Rattle.addr2line_unit.specs.UnitRange.{UnitRange}
use Rattle.addr2line_unit.specs.NumberedRanges.{covering_ranges}
use Rattle.addr2line_unit.specs.FirstAnswers.{output}
use Rattle.addr2line_unit.specs.EntryReferences.{KnownUnits}
use Rattle.addr2line_unit.specs.ResolvedUnits.{AnsweredUnit, ResolvedUnit, value_of_unit}
use Rattle.addr2line_lookups.specs.KeptUnits.{KeepsFunctionsAt}
use Rattle.addr2line_lookups.specs.Preloads.{load_at, loads_at}
use Rattle.addr2line_lookups.specs.FramePlaces.{frames_of_answered}
use Rattle.addr2line_lookups.specs.UnitLookups.{ask_at, unit_of_answered}

-- From an index on, the first range over an address is one of the unit of a number; the others are
-- from a next index on.
abbrev pub ComesNext : ℕ → ℕ → List UnitRange → ℕ → ℕ → Type 0
ComesNext a from rs number next =
    (range : Range)
    × (covering_ranges a (drop from rs)
    ≡ record { range = range; unit = number } ∷ covering_ranges a (drop next rs))

-- All ranges over an address before an index are so.
pub record Passed (P : UnitRange → Type 0) (a from : ℕ) (rs : List UnitRange) : Type 0 where
  pub passed : List UnitRange
  pub are_first : covering_ranges a rs ≡ passed ++ covering_ranges a (drop from rs)
  pub hold : All P passed

-- the functions of the unit of a range are kept
abbrev pub KeepsFunctionsOf : List ResolvedUnit → UnitRange → Type 0
KeepsFunctionsOf us r = KeepsFunctionsAt us r.unit

-- so are those of all units with a range over an address before an index
abbrev pub PassedAreKept : List ResolvedUnit → ℕ → ℕ → List UnitRange → Type 0
PassedAreKept us a from rs = Passed (KeepsFunctionsOf us) a from rs

-- the unit of a range is decided, and knows nothing of what is asked
abbrev pub KnowsNothing : {A : Type 0} → (AnsweredUnit → A) → A → List AnsweredUnit → UnitRange
    → Type 0
KnowsNothing ask nothing vs r = ask_at ask nothing vs r.unit ≡ output nothing

-- so are all units with a range over an address before an index
abbrev pub Pass : {A : Type 0} → (AnsweredUnit → A) → A → List AnsweredUnit → ℕ → ℕ
    → List UnitRange → Type 0
Pass ask nothing vs a from rs = Passed (KnowsNothing ask nothing vs) a from rs

-- a lookup of frames goes on from an index
abbrev pub PassFrames : KnownUnits → List AnsweredUnit → ℕ → ℕ → List UnitRange → Type 0
PassFrames known vs a from rs = Pass (frames_of_answered known a) (Ok []) vs a from rs

-- one of a unit
abbrev pub PassUnits : KnownUnits → List AnsweredUnit → ℕ → ℕ → List UnitRange → Type 0
PassUnits known vs a from rs = Pass (unit_of_answered known a) None vs a from rs

-- the loads of an address are those from an index on
abbrev pub PassLoads : List AnsweredUnit → ℕ → ℕ → List UnitRange → Type 0
PassLoads vs a from rs =
    loads_at vs (covering_ranges a rs) ≡ loads_at vs (covering_ranges a (drop from rs))

-- ---- units that are asked

-- The unit of a number is one of those of ranges, up to the first that knows something of what is
-- asked, or whose load needs an answer.
abbrev pub AsksUntil : {A : Type 0} → (AnsweredUnit → A) → A → List AnsweredUnit → List UnitRange
    → ℕ → Type 0
AsksUntil ask nothing vs [] number = ⊥
AsksUntil ask nothing vs (r ∷ rs) number =
    (number ≡ r.unit) ⊎ (KnowsNothing ask nothing vs r × AsksUntil ask nothing vs rs number)

-- a lookup of frames asks it
abbrev pub AsksFramesAmong : KnownUnits → List AnsweredUnit → ℕ → List UnitRange → ℕ → Type 0
AsksFramesAmong known vs a rs = AsksUntil (frames_of_answered known a) (Ok []) vs rs

-- one of a unit does
abbrev pub AsksUnitAmong : KnownUnits → List AnsweredUnit → ℕ → List UnitRange → ℕ → Type 0
AsksUnitAmong known vs a rs = AsksUntil (unit_of_answered known a) None vs rs

-- the functions of all units that a call asks are kept, but of one whose load needs an answer
abbrev pub KeepsAskedFunctions : (ℕ → Type 0) → List ResolvedUnit → Type 0
KeepsAskedFunctions asks us =
    (number : ℕ) → asks number → load_at (map value_of_unit us) number ≡ None
    → KeepsFunctionsAt us number
