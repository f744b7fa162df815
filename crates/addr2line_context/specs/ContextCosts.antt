-- How many looks at what is kept lookups of a context take, and what they leave of it.
use Rattle.std.specs.Prelude.{◌≡◌, ◌≢◌, ℕ, ◌+◌, List, [], ◌∷◌, map, Option, None, Result, Err}
use Rattle.addr2line_lookups.specs.Error.{Error}
use Rattle.addr2line_lookups.specs.Error.TheVariants.{Memory}
use Rattle.addr2line_lookups.specs.DwarfFiles.{DwarfFile}
use Rattle.addr2line_lookups.specs.FirstAnswers.{FirstAnswer, FirstAnswers}
use Rattle.addr2line_lookups.specs.Pairs.{covering_pairs}
use Rattle.addr2line_lookups.specs.ContextNames.{known_units}
use Rattle.addr2line_lookups.specs.Contexts.{ContextUnit, ranges_of}
use Rattle.addr2line_lookups.specs.UnitRange.{UnitRange}
use Rattle.addr2line_lookups.specs.NumberedRanges.{numbered_range, overlapping_ranges}
use Rattle.addr2line_lookups.specs.ContextUnits.{unit_places, ordered_ranges}
use Rattle.addr2line_lookups.specs.ResolvedUnits.{AnsweredUnit, ResolvedUnit}
use Rattle.addr2line_lookups.specs.KeptUnits.{AsksAmong, KeepsAsked, ReadsAsked, ReadsAskedFunctions, ReadsNoFunctions, IsUnitOf}
use Rattle.addr2line_lookups.specs.RangeWalks.{ComesTo, AsksForStretch, looks_from, walk_looks}
use Rattle.addr2line_lookups.specs.declared.range_walk.RangeWalk.{RangeWalk}
use Rattle.addr2line_lookups.specs.LookupCosts.{AtMostLooks, TakesLooks, row_looks, frame_search_looks, unit_search_looks}
use Rattle.addr2line_lookups.specs.PassedUnits.{AsksFramesAmong, AsksUnitAmong, KeepsAskedFunctions}
use Rattle.addr2line_context.specs.AnsweredContexts.{AnsweredContext}
use Rattle.addr2line_context.specs.KeptContexts.{ResolvedContext}

-- ---- looks

abbrev pub answered_unit : DwarfFile → ContextUnit → Option FirstAnswer → AnsweredUnit
answered_unit file u first = record { file = file; unit = u; first = first }

-- units of a file with the first answers to their loads, by their numbers
abbrev pub units_with_answers : DwarfFile → List ContextUnit → FirstAnswers → List AnsweredUnit
units_with_answers file [] answers = []
units_with_answers file (u ∷ us) [] = answered_unit file u None ∷ units_with_answers file us []
units_with_answers file (u ∷ us) (first ∷ answers) =
    answered_unit file u first ∷ units_with_answers file us answers

-- those of a context
abbrev pub answered_units : AnsweredContext → List AnsweredUnit
answered_units c = units_with_answers c.plain.file c.plain.context.units c.answers

-- the ranges that cover an address, in the order in which lookups ask their units
abbrev pub ranges_over : AnsweredContext → ℕ → List UnitRange
ranges_over c a = map numbered_range (covering_pairs ranges_of c.plain.context.units a)

-- The looks for the place of an address: for each range whose unit a lookup asks, two searches
-- among the unit's lines.
abbrev pub location_looks : AnsweredContext → ℕ → ℕ
location_looks c a =
    row_looks c.plain.context.units (answered_units c) a (ranges_over c a)

-- those for its frames: among the functions of each such unit and the calls of one, too
abbrev pub frame_looks : AnsweredContext → ℕ → ℕ
frame_looks c a =
    frame_search_looks (known_units c.plain) (answered_units c) a (ranges_over c a)

-- those for its unit
abbrev pub unit_looks : AnsweredContext → ℕ → ℕ
unit_looks c a = unit_search_looks (known_units c.plain) (answered_units c) a (ranges_over c a)

-- Those that are left to a walk between two ends: for each sequence that is left of the unit that it
-- is in a search among its rows and five looks, and three looks at a row; for each range after it
-- the same of all sequences of its unit, and a search among these.
abbrev pub stretch_looks : AnsweredContext → RangeWalk → ℕ
stretch_looks c w =
    walk_looks c.plain.context.units (ordered_ranges c.plain.context.units) w

-- those before its first stretch: for all ranges between the ends
abbrev pub looks_between : AnsweredContext → ℕ → ℕ → ℕ
looks_between c low high =
    looks_from c.plain.context.units low high (ordered_ranges c.plain.context.units) 0

-- ---- what a lookup leaves

-- The lookup of the place of an address asks the unit of a number: one with a range over it, no
-- later than the first whose lines have a row for it or are refused.
abbrev pub AsksForPlace : AnsweredContext → ℕ → ℕ → Type 0
AsksForPlace c a = AsksAmong c.plain.context.units a (ranges_over c a)

-- The lookup of the frames of an address asks the unit of a number: one with a range over it, no
-- later than the first that has some or is refused, or whose load needs an answer.
abbrev pub AsksForFrames : AnsweredContext → ℕ → ℕ → Type 0
AsksForFrames c a = AsksFramesAmong (known_units c.plain) (answered_units c) a (ranges_over c a)

-- The lookup of the unit of an address asks the unit of a number: one with a range over it, no
-- later than the first that is the unit of the address, or whose load needs an answer.
abbrev pub AsksForUnit : AnsweredContext → ℕ → ℕ → Type 0
AsksForUnit c a = AsksUnitAmong (known_units c.plain) (answered_units c) a (ranges_over c a)

-- The lookup of the stretches between two ends asks the unit of a number: one with a range between
-- them.
abbrev pub AsksForRange : AnsweredContext → ℕ → ℕ → ℕ → Type 0
AsksForRange c low high =
    IsUnitOf (overlapping_ranges low high (ordered_ranges c.plain.context.units))

-- a search for what an address has: the units that it asks, and the looks at what is kept of them
pub record Search : Type 1 where
  pub asks : AnsweredContext → ℕ → ℕ → Type 0
  pub looks : AnsweredContext → ℕ → ℕ

-- one for frames
abbrev pub frame_search : Search
frame_search = record { asks = AsksForFrames; looks = frame_looks }

-- one for a unit
abbrev pub unit_search : Search
unit_search = record { asks = AsksForUnit; looks = unit_looks }

-- the unit of a number is one that a walk over stretches may still ask for its lines
abbrev pub AsksForStretches : AnsweredContext → RangeWalk → ℕ → Type 0
AsksForStretches c w = ComesTo (ordered_ranges c.plain.context.units) w

-- The next step of a walk asks the unit of a number: that of the range that it is in, or, where
-- that has no stretch left, one of the ranges after it, up to the first that has one or is refused.
abbrev pub AsksForNext : AnsweredContext → RangeWalk → ℕ → Type 0
AsksForNext c w =
    AsksForStretch (map unit_places c.plain.context.units) (ordered_ranges c.plain.context.units) w

-- the next step of a walk asks no units but those that the walk may still ask
abbrev pub StepAsksOnItsWay : Type 0
StepAsksOnItsWay =
    (c : AnsweredContext) (w : RangeWalk) (number : ℕ) → AsksForNext c w number
    → AsksForStretches c w number

-- A walk between two ends asks no units but those with a range between them, and may take as many
-- looks as these need.
pub record GoesBetween (c : AnsweredContext) (low high : ℕ) (w : RangeWalk) : Type 0 where
  pub asks : (number : ℕ) → AsksForStretches c w number → AsksForRange c low high number
  pub looks : stretch_looks c w ≡ looks_between c low high

-- The context's value is what it was. There were no more than n looks at what is kept. Lines,
-- functions and calls that were kept are kept still, so that no line number program is run again.
pub record AfterLookup (n : ℕ) (old new : ResolvedContext) : Type 0 where
  pub value : new.value ≡ old.value
  pub cost : AtMostLooks n old.units new.units

-- The same after a search of an address. Where it has memory, the functions of the units that it
-- asks are kept, but of one whose load needs an answer. It reads lines and functions of no others.
pub record AfterSearch (search : Search) (has_memory : Type 0) (a : ℕ)
    (old new : ResolvedContext) : Type 0 where
  pub value : new.value ≡ old.value
  pub cost : AtMostLooks (search.looks old.value a) old.units new.units
  pub reads : ReadsAsked (search.asks old.value a) old.units new.units
  pub functions : ReadsAskedFunctions (search.asks old.value a) old.units new.units
  pub asked : has_memory → KeepsAskedFunctions (search.asks old.value a) new.units

-- The same after a call with this result that asks units for their lines. Unless it was out of
-- memory, these are kept; it reads no others, and no functions.
pub record AfterReading {A : Type 0} (asks : ℕ → Type 0) (n : ℕ) (result : Result A Error)
    (old new : ResolvedContext) : Type 0 where
  pub value : new.value ≡ old.value
  pub cost : AtMostLooks n old.units new.units
  pub asked : result ≢ Err Memory → KeepsAsked asks new.units
  pub reads : ReadsAsked asks old.units new.units
  pub functions : ReadsNoFunctions old.units new.units

-- The same after a step with this result of a walk between two ends. Its looks, and those that are
-- left to the walk after it, are no more than three and those that were left before it. Later the
-- walk asks no units but those that it might still ask before the step.
pub record AfterStep {A : Type 0} (result : Result A Error) (old_walk new_walk : RangeWalk)
    (old new : ResolvedContext) : Type 0 where
  pub value : new.value ≡ old.value
  pub cost : TakesLooks (stretch_looks old.value old_walk + 3) (stretch_looks old.value new_walk)
      old.units new.units
  pub asked : result ≢ Err Memory → KeepsAsked (AsksForNext old.value old_walk) new.units
  pub reads : ReadsAsked (AsksForNext old.value old_walk) old.units new.units
  pub functions : ReadsNoFunctions old.units new.units
  pub way : (number : ℕ) → AsksForStretches old.value new_walk number
      → AsksForStretches old.value old_walk number
