-- Ranges in the order of their owners, and what a pass over them finds.
use Rattle.std.specs.Prelude.{ℕ, max, Bool, true, false, ◌||◌, nat_lt, List, [], ◌∷◌, Option, Some, None, not, reverse, ◌&&◌, if◌then◌else◌}
use Rattle.std.specs.List.{list_any}
use Rattle.linemap_meaning.specs.TableParts.{RangePart, Calls, no_calls, more_calls}
use Rattle.linemap_meaning.specs.Conditions.{any_outside, is_empty_range, overlap, sibling_ranges}
use Rattle.linemap_meaning.specs.TableRangeLaws.{begins_ascend_from}

-- items in their order, or the last first
abbrev pub in_direction : {T : Type 0} → Bool → List T → List T
in_direction false items = items
in_direction true items = reverse items

-- the greatest end, if each range begins at or above the ends of those before it, and the first at
-- or above `end`
abbrev pub ordered_end : ℕ → List RangePart → Option ℕ
ordered_end end [] = Some end
ordered_end end (r ∷ rs) = if nat_lt r.begin end then None else ordered_end (max end r.end) rs

-- no range is empty, and each begins at or above the start of the one before it
abbrev pub is_ascending : List RangePart → Bool
is_ascending rs = not (list_any is_empty_range rs) && begins_ascend_from 0 rs

-- the one of two ranges that ends last
abbrev pub later_end : RangePart → RangePart → RangePart
later_end q r = if nat_lt q.end r.end then r else q

-- the range that ends last of `last` and the others, if none of these overlaps the one that ends
-- last of those before it
abbrev pub last_apart : RangePart → List RangePart → Option RangePart
last_apart last [] = Some last
last_apart last (r ∷ rs) = if overlap last r then None else last_apart (later_end last r) rs

-- some range of the first list overlaps a later one of it, or one of the second list
abbrev pub any_overlaps_later : List RangePart → List RangePart → Bool
any_overlaps_later [] later = false
any_overlaps_later (r ∷ rs) later =
    list_any (overlap r) rs || list_any (overlap r) later || any_overlaps_later rs later

-- some call inlined into one of a list, at any depth, has a range outside its caller's
abbrev pub any_inner_outside : Calls → Bool
any_inner_outside no_calls = false
any_inner_outside (more_calls site inner others) =
    any_outside site.ranges (sibling_ranges inner) || any_inner_outside inner
    || any_inner_outside others
