-- The units that may know an address: those with a range that covers it.
use Rattle.std.specs.Prelude.{ℕ, ◌+◌, Bool, ◌&&◌, nat_lt, List, [], ◌∷◌, ◌++◌, map, filter}
use Rattle.gimli_lines_machine.specs.Range.{Range}
use Rattle.addr2line_spec.specs.Choice.{holds}
use Rattle.addr2line_spec.specs.Orders.{in_order}

-- a range of a unit, with the unit and its number
pub record Pair (U : Type 0) : Type 0 where
  pub range : Range
  pub number : ℕ
  pub unit : U

-- the pairs of one unit, in the order of its ranges
abbrev pub pairs_of : {U : Type 0} → (U → List Range) → ℕ → U → List (Pair U)
pairs_of ranges n u = map (λ r. record { range = r; number = n; unit = u }) (ranges u)

-- those of units that are numbered from n on
abbrev pub pairs_from : {U : Type 0} → (U → List Range) → ℕ → List U → List (Pair U)
pairs_from ranges n [] = []
pairs_from ranges n (u ∷ us) = pairs_of ranges n u ++ pairs_from ranges (n + 1) us

abbrev pub ends_after : {U : Type 0} → Pair U → Pair U → Bool
ends_after p q = nat_lt q.range.end p.range.end

-- the pairs of all units: by their ends, those of one end by their units' numbers, and those of one
-- unit in the order of its ranges
abbrev pub all_pairs : {U : Type 0} → (U → List Range) → List U → List (Pair U)
all_pairs ranges us = in_order ends_after (pairs_from ranges 0 us)

-- the pairs that cover an address
abbrev pub covering_pairs : {U : Type 0} → (U → List Range) → List U → ℕ → List (Pair U)
covering_pairs ranges us a = filter (λ p. holds a p.range) (all_pairs ranges us)

-- the range ends above the low end and begins below the high one
abbrev pub overlaps : ℕ → ℕ → Range → Bool
overlaps low high r = nat_lt low r.end && nat_lt r.begin high

-- the pairs that overlap what lies between two ends
abbrev pub overlapping_pairs : {U : Type 0} → (U → List Range) → List U → ℕ → ℕ
    → List (Pair U)
overlapping_pairs ranges us low high =
    filter (λ p. overlaps low high p.range) (all_pairs ranges us)
