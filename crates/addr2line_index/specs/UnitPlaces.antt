-- What lookups ask of units: the ranges of each, and its lines or the refusal of them.
use Rattle.std.specs.Prelude.{ℕ, List, slice_get, map, Option, Some, None, Result, Ok}
use Rattle.addr2line_spec.specs.Error.{Error}
use Rattle.addr2line_spec.specs.Range.{Range}
use Rattle.addr2line_spec.specs.Lines.{Lines, Location}
use Rattle.addr2line_spec.specs.PlaceLookups.{place_or_refusal, location_at}
use Rattle.addr2line_index.specs.declared.unit_range.UnitRange.{UnitRange}
use Rattle.addr2line_index.specs.NumberedRanges.{unit_ranges}

pub record UnitPlaces : Type 0 where
  pub ranges : List Range
  pub lines : Result Lines Error

-- the ranges of units, in the order in which lookups ask them
abbrev pub ranges_in_order : List UnitPlaces → List UnitRange
ranges_in_order units = unit_ranges (map (λ u. u.ranges) units)

-- the place of an address, of the first unit with a range over it that answers
abbrev pub location_of : List UnitPlaces → ℕ → Result (Option Location) Error
location_of units a = location_at (λ u. u.ranges) (λ u. u.lines) units a

-- what a unit's lines answer, where there is a unit
abbrev pub answer_of : ℕ → Option UnitPlaces → Result (Option Location) Error
answer_of a None = Ok None
answer_of a (Some u) = place_or_refusal a u.lines

-- what the unit of a number answers
abbrev pub answer_at : List UnitPlaces → ℕ → ℕ → Result (Option Location) Error
answer_at units a n = answer_of a (slice_get units n)
