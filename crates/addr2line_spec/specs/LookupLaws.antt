-- What follows from the definitions of lookups.
use Rattle.std.specs.Prelude.{◌≡◌, ℕ, Bool, true, ◌&&◌, ◌||◌, nat_lt, nat_le, List, [], ◌∷◌, length, filter, find, map, None}
use Rattle.std.specs.List.{list_all, last_or}
use Rattle.gimli_lines_machine.specs.Range.{Range}
use Rattle.addr2line_spec.specs.Choice.{holds, holder}
use Rattle.addr2line_spec.specs.Lines.{LineRow, row_of}
use Rattle.addr2line_spec.specs.Pairs.{Pair, pairs_from, all_pairs}

-- ---- where no two ranges overlap

-- the range has an address
abbrev pub has_address : Range → Bool
has_address r = nat_lt r.begin r.end

-- one ends where the other begins, or before
abbrev pub is_apart : Range → Range → Bool
is_apart r s = nat_le r.end s.begin || nat_le s.end r.begin

-- each has an address, and no two overlap
abbrev pub are_apart : List Range → Bool
are_apart [] = true
are_apart (r ∷ rs) = has_address r && list_all (is_apart r) rs && are_apart rs

-- what holds an address is then the first that does, which is the only one
abbrev pub HoldsOnce : Type 0 → Type 0
HoldsOnce X =
    (range : X → Range) (a : ℕ) (xs : List X) → are_apart (map range xs) ≡ true
    → holder range a xs ≡ find (λ x. holds a (range x)) xs

-- ---- where rows ascend

-- no row is below the one before it, nor the first below low
abbrev pub rows_ascend_from : ℕ → List LineRow → Bool
rows_ascend_from low [] = true
rows_ascend_from low (r ∷ rs) = nat_le low r.address && rows_ascend_from r.address rs

-- the row of an address is then the last at or below it
abbrev pub LastAtOrBelow : Type 0
LastAtOrBelow =
    (a : ℕ) (rows : List LineRow) → rows_ascend_from 0 rows ≡ true
    → row_of rows a ≡ last_or None (filter (λ r. nat_le r.address a) rows)

-- ---- pairs

-- putting pairs in order keeps each of them, as often as it was there
abbrev pub NoPairIsLost : Type 0 → Type 0
NoPairIsLost U =
    (ranges : U → List Range) (us : List U) (kind : Pair U → Bool)
    → length (filter kind (all_pairs ranges us)) ≡ length (filter kind (pairs_from ranges 0 us))
