-- The ranges of units, each with its unit's number.
use Rattle.std.specs.Prelude.{ℕ, List, map, filter}
use Rattle.addr2line_spec.specs.Range.{Range}
use Rattle.addr2line_spec.specs.Choice.{holds}
use Rattle.addr2line_spec.specs.Pairs.{Pair, pairs_from, all_pairs, overlaps}
use Rattle.addr2line_index.specs.declared.unit_range.UnitRange.{UnitRange}

-- a range with the number of its unit
abbrev pub numbered_range : {U : Type 0} → Pair U → UnitRange
numbered_range p = record { range = p.range; unit = p.number }

-- the ranges of units, in the order of the units
abbrev pub ranges_of_units : List (List Range) → List UnitRange
ranges_of_units units = map numbered_range (pairs_from (λ rs. rs) 0 units)

-- the same in the order in which lookups ask the units
abbrev pub unit_ranges : List (List Range) → List UnitRange
unit_ranges units = map numbered_range (all_pairs (λ rs. rs) units)

-- those that cover an address
abbrev pub covering_ranges : ℕ → List UnitRange → List UnitRange
covering_ranges a rs = filter (λ r. holds a r.range) rs

-- those that overlap what lies between two ends
abbrev pub overlapping_ranges : ℕ → ℕ → List UnitRange → List UnitRange
overlapping_ranges low high rs = filter (λ r. overlaps low high r.range) rs
