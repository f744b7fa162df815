-- What follows for the ranges of a table, for every table.
use Rattle.std.specs.Prelude.{◌≡◌, ◌≤◌, ℕ, Bool, true, false, not, ◌&&◌, nat_le, List, [], ◌∷◌, length, filter, Contains}
use Rattle.std.specs.List.{list_any}
use Rattle.linemap_meaning.specs.TableParts.{RangePart, UnitPart}
use Rattle.linemap_meaning.specs.Conditions.{is_empty_range, any_overlap, span, IsSound}
use Rattle.linemap_meaning.specs.Meaning.{any_holds}

-- ---- ranges in order

-- each range begins at or above the start of the one before it, and the first at or above low
abbrev pub begins_ascend_from : ℕ → List RangePart → Bool
begins_ascend_from low [] = true
begins_ascend_from low (r ∷ rs) = nat_le low r.begin && begins_ascend_from r.begin rs

-- each range begins at or above the end of the one before it, and the first at or above low
abbrev pub follow_from : ℕ → List RangePart → Bool
follow_from low [] = true
follow_from low (r ∷ rs) = nat_le low r.begin && follow_from r.end rs

-- of ranges that ascend, some two overlap exactly where two neighbours do
abbrev pub NeighboursSuffice : Type 0
NeighboursSuffice =
    (rs : List RangePart) → list_any is_empty_range rs ≡ false
    → begins_ascend_from 0 rs ≡ true
    → any_overlap rs ≡ not (follow_from 0 rs)

-- ranges that follow each other don't overlap
abbrev pub FollowingApart : Type 0
FollowingApart =
    (rs : List RangePart) → list_any is_empty_range rs ≡ false → follow_from 0 rs ≡ true
    → any_overlap rs ≡ false

-- ---- one holder of an address

-- at most one of the units, of a unit's functions and of its sequences holds an address
abbrev pub OneUnit : Type 0
OneUnit =
    (us : List UnitPart) (a : ℕ) → IsSound us
    → length (filter (λ u. any_holds a u.ranges) us) ≤ 1

abbrev pub OneFunction : Type 0
OneFunction =
    (us : List UnitPart) (u : UnitPart) (a : ℕ) → IsSound us → Contains us u
    → length (filter (λ f. any_holds a f.ranges) u.functions) ≤ 1

abbrev pub OneSequence : Type 0
OneSequence =
    (us : List UnitPart) (u : UnitPart) (a : ℕ) → IsSound us → Contains us u
    → length (filter (λ s. any_holds a (span s)) u.sequences) ≤ 1
