-- Ranges of functions or of calls, each with the number of what it belongs to.
use Rattle.std.specs.Prelude.{ℕ, List, map, Option, option_map}
use Rattle.gimli_units_entries.specs.Range.{Range}
use Rattle.addr2line_ranges.specs.Choice.{holder}
use Rattle.addr2line_ranges.specs.Pairs.{Pair, pairs_from}
use Rattle.addr2line_ranges.specs.RangeLevels.{at_level}
use Rattle.addr2line_functions.specs.declared.numbered_range.NumberedRange.{NumberedRange}

abbrev pub depth_of : NumberedRange → ℕ
depth_of r = r.depth

abbrev pub range_of : NumberedRange → Range
range_of r = r.range

abbrev pub number_of : NumberedRange → ℕ
number_of r = r.number

-- ranges of one depth and number
abbrev pub of_number : ℕ → ℕ → List Range → List NumberedRange
of_number depth n rs = map (λ r. record { depth = depth; range = r; number = n }) rs

-- a pair by its number, at the depth of its item
abbrev pub numbered_range : {U : Type 0} → (U → ℕ) → Pair U → NumberedRange
numbered_range depth p = record { depth = depth p.unit; range = p.range; number = p.number }

-- the ranges of items, in order of appearance
abbrev pub numbered_ranges : {U : Type 0} → (U → ℕ) → (U → List Range) → List U
    → List NumberedRange
numbered_ranges depth ranges us = map (numbered_range depth) (pairs_from ranges 0 us)

-- the number of the range that holds an address, among those of a depth
abbrev pub number_at : ℕ → ℕ → List NumberedRange → Option ℕ
number_at depth a rs = option_map number_of (holder range_of a (at_level depth_of depth rs))
