-- Items with ranges of addresses at levels, in the order in which they are searched.
use Rattle.std.specs.Prelude.{ℕ, Bool, ◌==◌, ◌&&◌, ◌||◌, nat_lt, nat_le, List, filter}
use Rattle.addr2line_spec.specs.Range.{Range}
use Rattle.addr2line_spec.specs.Choice.{is_later}
use Rattle.addr2line_spec.specs.Orders.{in_order}

-- those of a level, in their order
abbrev pub at_level : {X : Type 0} → (X → ℕ) → ℕ → List X → List X
at_level level n xs = filter (λ x. level x == n) xs

-- the second is of a higher level, or its range is later
abbrev pub comes_before : {X : Type 0} → (X → ℕ) → (X → Range) → X → X → Bool
comes_before level range x y =
    nat_lt (level x) (level y) || (level x == level y && is_later (range y) (range x))

-- by their levels, those of one level by their begins, of one begin by their ends, and of one range
-- in their order
abbrev pub by_level : {X : Type 0} → (X → ℕ) → (X → Range) → List X → List X
by_level level range xs = in_order (λ x y. comes_before level range y x) xs

-- the item is of a lower level, or of this one and begins at or below the address
abbrev pub begins_by : {X : Type 0} → (X → ℕ) → (X → Range) → ℕ → ℕ → X → Bool
begins_by level range n a x = nat_lt (level x) n || (level x == n && nat_le (range x).begin a)
