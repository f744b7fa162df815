-- Ranges of units by their ends, each with the least begin from it on, by which a search among them
-- knows where to start and where to stop, and with the number of pairs up to it.
use Rattle.std.specs.Prelude.{◌≡◌, ℕ, suc, ◌+◌, ◌-◌, ◌^◌, ◌<◌, ◌≤◌, min, nat_le, Bool, ◌||◌, List, [], ◌∷◌, map, drop}
use Rattle.std.specs.List.Sorted.{IsNonDecreasingBy}
use Rattle.addr2line_index.specs.declared.unit_range.UnitRange.{UnitRange}
use Rattle.addr2line_index.specs.declared.shared_range.SharedRange.{SharedRange}
use Rattle.addr2line_index.specs.declared.bounded_range.BoundedRange.{BoundedRange}
use Rattle.addr2line_index.specs.NumberedRanges.{overlapping_ranges}
use Rattle.addr2line_index.specs.SharedRanges.{more_units, pairs_in, pairs_in_all}

-- the greatest begin that a range of addresses can have
abbrev pub greatest_begin : ℕ
greatest_begin = 2 ^ 64 - 1

-- the least begin of ranges, of none the greatest that there is
abbrev pub least_begin : List BoundedRange → ℕ
least_begin [] = greatest_begin
least_begin (e ∷ es) = min e.shared.range.begin (least_begin es)

abbrev pub shared_in : List BoundedRange → List SharedRange
shared_in es = map (λ e. e.shared) es

-- the pairs that they stand for
abbrev pub ranges_in : List BoundedRange → List UnitRange
ranges_in es = pairs_in_all (shared_in es)

-- each has the least begin from it on
abbrev pub IsBounded : List BoundedRange → Type 0
IsBounded [] = Unit {0}
IsBounded (e ∷ es) = (e.least_begin ≡ least_begin (e ∷ es)) × IsBounded es

-- each has the number of pairs up to its last, the first after this many
abbrev pub CountsFrom : ℕ → List BoundedRange → Type 0
CountsFrom before [] = Unit {0}
CountsFrom before (e ∷ es) =
    (e.after ≡ before + suc (more_units e.shared)) × CountsFrom e.after es

-- where a range ends
abbrev pub end_of : BoundedRange → ℕ
end_of e = e.shared.range.end

-- the range ends at or below an address
abbrev pub ends_by : ℕ → BoundedRange → Bool
ends_by a e = nat_le (end_of e) a

-- or all its pairs are before an index
abbrev pub is_skipped : ℕ → ℕ → BoundedRange → Bool
is_skipped from a e = ends_by a e || nat_le e.after from

-- they are in the order of their ends, bounded, and counted
abbrev pub IsInOrder : List BoundedRange → Type 0
IsInOrder es = IsNonDecreasingBy end_of es × IsBounded es × CountsFrom 0 es

-- ---- the pairs of one range among all pairs

-- its pairs are among those up to its last
abbrev pub IsCounted : BoundedRange → Type 0
IsCounted e = suc (more_units e.shared) ≤ e.after

-- the index of its first pair
abbrev pub index_of : BoundedRange → ℕ
index_of e = e.after - suc (more_units e.shared)

-- its pairs from an index on
abbrev pub pairs_left : ℕ → BoundedRange → List UnitRange
pairs_left from e = drop (from - index_of e) (pairs_in e.shared)

-- it has pairs from an index on, and the next index is the one after one of its pairs
abbrev pub IsBehind : ℕ → BoundedRange → ℕ → Type 0
IsBehind from e next = (from < e.after) × (index_of e < next) × (next ≤ e.after)

-- the first of them, and the index after it
abbrev pub IsNextPair : ℕ → BoundedRange → UnitRange × ℕ → Type 0
IsNextPair from e f = IsBehind from e f.1 × (pairs_left from e ≡ f.0 ∷ pairs_left f.1 e)

-- the same of those that overlap what lies between two ends
abbrev pub IsNextOverlap : ℕ → ℕ → ℕ → BoundedRange → UnitRange × ℕ → Type 0
IsNextOverlap low high from e f =
    IsBehind from e f.1 × (overlapping_ranges low high (pairs_left from e)
    ≡ f.0 ∷ overlapping_ranges low high (pairs_left f.1 e))
