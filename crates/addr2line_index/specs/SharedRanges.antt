-- Ranges that several units in a row have: each is kept once, and stands for one pair with each of
-- the units.
use Rattle.std.specs.Prelude.{◌≡◌, ℕ, zero, suc, ◌+◌, ◌-◌, ◌<◌, ◌≤◌, List, [], ◌∷◌, ◌++◌, map}
use Rattle.addr2line_spec.specs.Range.{Range}
use Rattle.addr2line_index.specs.declared.unit_range.UnitRange.{UnitRange}
use Rattle.addr2line_index.specs.declared.shared_range.SharedRange.{SharedRange}
use Rattle.addr2line_index.specs.declared.unit_run.UnitRun.{UnitRun}

-- a range of a unit, and of more units after it
abbrev pub in_units : Range → ℕ → ℕ → List UnitRange
in_units r unit zero = record { range = r; unit = unit } ∷ []
in_units r unit (suc more) = record { range = r; unit = unit } ∷ in_units r (unit + 1) more

-- how many units come after the first
abbrev pub more_units : SharedRange → ℕ
more_units s = s.last - s.first

-- the pairs of a range and its units
abbrev pub pairs_in : SharedRange → List UnitRange
pairs_in s = in_units s.range s.first (more_units s)

-- those of several ranges
abbrev pub pairs_in_all : List SharedRange → List UnitRange
pairs_in_all [] = []
pairs_in_all (s ∷ ss) = pairs_in s ++ pairs_in_all ss

-- how many they are
abbrev pub count_in_all : List SharedRange → ℕ
count_in_all [] = 0
count_in_all (s ∷ ss) = suc (more_units s) + count_in_all ss

-- ---- units with equal ranges

-- ranges of one unit
abbrev pub with_unit : ℕ → List Range → List UnitRange
with_unit n rs = map (λ r. record { range = r; unit = n }) rs

-- ranges of a unit, and of more units after it
abbrev pub with_units : ℕ → ℕ → List Range → List UnitRange
with_units unit zero rs = with_unit unit rs
with_units unit (suc more) rs = with_unit unit rs ++ with_units (unit + 1) more rs

-- the ranges of units in a row, unit by unit
abbrev pub pairs_of_run : UnitRun → List UnitRange
pairs_of_run u = with_units u.first (u.last - u.first) u.ranges.now

abbrev pub pairs_of_runs : List UnitRun → List UnitRange
pairs_of_runs [] = []
pairs_of_runs (u ∷ us) = pairs_of_run u ++ pairs_of_runs us

-- the same ranges, each kept once
abbrev pub shared_of_run : UnitRun → List SharedRange
shared_of_run u = map (λ r. record { range = r; first = u.first; last = u.last }) u.ranges.now

abbrev pub shared_of_runs : List UnitRun → List SharedRange
shared_of_runs [] = []
shared_of_runs (u ∷ us) = shared_of_run u ++ shared_of_runs us

-- each range ends above a number
abbrev pub EndAbove : ℕ → List Range → Type 0
EndAbove low [] = Unit {0}
EndAbove low (r ∷ rs) = (low < r.end) × EndAbove low rs

-- each ends above those before it
abbrev pub EndsRise : List Range → Type 0
EndsRise [] = Unit {0}
EndsRise (r ∷ rs) = EndAbove r.end rs × EndsRise rs

-- Where several units share ranges, no two of these have one end: the pairs of an end are in the
-- order of their units, which a range that is kept once has too.
abbrev pub IsShareable : UnitRun → Type 0
IsShareable u = (u.first ≤ u.last) × (u.first < u.last → EndsRise u.ranges.now)

abbrev pub AreShareable : List UnitRun → Type 0
AreShareable [] = Unit {0}
AreShareable (u ∷ us) = IsShareable u × AreShareable us

-- a unit with these ranges may be the next of a run
abbrev pub GoesOn : UnitRun → ℕ → List Range → Type 0
GoesOn u unit ranges = (unit ≡ u.last + 1) × (u.ranges.now ≡ ranges) × EndsRise ranges

-- it may be the next of the last one
abbrev pub LastGoesOn : List UnitRun → ℕ → List Range → Type 0
LastGoesOn [] unit ranges = ⊥
LastGoesOn (u ∷ []) unit ranges = GoesOn u unit ranges
LastGoesOn (u ∷ v ∷ us) unit ranges = LastGoesOn (v ∷ us) unit ranges

-- the last one with another last unit
abbrev pub with_last : ℕ → List UnitRun → List UnitRun
with_last unit [] = []
with_last unit (u ∷ []) = record u { last = unit } ∷ []
with_last unit (u ∷ v ∷ us) = u ∷ with_last unit (v ∷ us)
