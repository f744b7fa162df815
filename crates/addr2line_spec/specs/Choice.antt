-- What holds an address where several ranges may. It is not defined by the standard, whose
-- producers write no such ranges; here the one that begins last holds it.
use Rattle.std.specs.Prelude.{ℕ, Bool, ◌==◌, ◌&&◌, ◌||◌, nat_lt, nat_le, List, [], ◌∷◌, filter, Option, Some, None, if◌then◌else◌}
use Rattle.gimli_lines_machine.specs.Range.{Range}

-- the address is at or above the begin and below the end
abbrev pub holds : ℕ → Range → Bool
holds a r = nat_le r.begin a && nat_lt a r.end

-- the first range begins above the second, or with it and ends above it
abbrev pub is_later : Range → Range → Bool
is_later r s = nat_lt s.begin r.begin || (r.begin == s.begin && nat_lt s.end r.end)

-- one of two, the second of which comes after the first: that of the later range, the second where
-- neither is
abbrev pub later_of : {X : Type 0} → (X → Range) → X → Option X → X
later_of range x None = x
later_of range x (Some y) = if is_later (range x) (range y) then x else y

-- of all the one with the greatest begin, of these with the greatest end, of these the last
abbrev pub latest : {X : Type 0} → (X → Range) → List X → Option X
latest range [] = None
latest range (x ∷ xs) = Some (later_of range x (latest range xs))

-- that of those which begin at or below an address
abbrev pub latest_at_or_below : {X : Type 0} → (X → Range) → ℕ → List X → Option X
latest_at_or_below range a xs = latest range (filter (λ x. nat_le (range x).begin a) xs)

-- what passes the test
abbrev pub only_if : {X : Type 0} → (X → Bool) → Option X → Option X
only_if test None = None
only_if test (Some x) = if test x then Some x else None

-- it holds the address if it ends above it; else none does
abbrev pub holder : {X : Type 0} → (X → Range) → ℕ → List X → Option X
holder range a xs = only_if (λ x. nat_lt a (range x).end) (latest_at_or_below range a xs)
