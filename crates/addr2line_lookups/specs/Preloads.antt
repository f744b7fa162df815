-- The loads that lookups of an address may wait for, by the units' numbers.
use Rattle.std.specs.Prelude.{◌≡◌, ℕ, ◌==◌, Bool, List, [], ◌∷◌, ◌++◌, slice_get, Option, Some, None, option_map, option_and_then, if◌then◌else◌}
use Rattle.std.specs.List.{filter_map, list_any}
use Rattle.std.specs.Ordering.{nat_cmp}
use Rattle.std.specs.BTreeSet.{BTreeSet, contains}
use Rattle.addr2line_unit.specs.FirstAnswers.{SplitLoad, PendingLoad}
use Rattle.addr2line_unit.specs.UnitRange.{UnitRange}
use Rattle.addr2line_unit.specs.ResolvedUnits.{AnsweredUnit, pending_load}

-- ---- units

abbrev pub numbered_load : ℕ → SplitLoad → PendingLoad
numbered_load number load = record { number = number; load = load }

-- the load of the unit of a number, if it needs an answer
abbrev pub load_at : List AnsweredUnit → ℕ → Option PendingLoad
load_at vs number =
    option_map (numbered_load number) (option_and_then pending_load (slice_get vs number))

-- those of the units of ranges
abbrev pub loads_at : List AnsweredUnit → List UnitRange → List PendingLoad
loads_at vs rs = filter_map (λ r. load_at vs r.unit) rs

-- ---- lists of loads

-- a load with the token of its unit
abbrev pub load_of_item : SplitLoad × ℕ → PendingLoad
load_of_item i = numbered_load i.1 i.0

-- one of the loads is that of the unit of a number
abbrev pub is_listed : List PendingLoad → ℕ → Bool
is_listed ps number = list_any (λ p. number == p.number) ps

-- these are the numbers of the units whose loads are listed
abbrev pub AreNumbersOf : List PendingLoad → BTreeSet ℕ → Type 0
AreNumbersOf ps numbers = (n : ℕ) → contains nat_cmp numbers n ≡ is_listed ps n

-- with one more load, unless one of its unit is listed
abbrev pub with_load : List PendingLoad → PendingLoad → List PendingLoad
with_load ps p = if is_listed ps p.number then ps else ps ++ p ∷ []

abbrev pub with_load_if_any : List PendingLoad → Option PendingLoad → List PendingLoad
with_load_if_any ps None = ps
with_load_if_any ps (Some p) = with_load ps p

-- ---- the first

-- the number of the unit of the first load, if there is one
abbrev pub first_number : List PendingLoad → Option ℕ
first_number [] = None
first_number (p ∷ ps) = Some p.number

abbrev pub first_load : List PendingLoad → Option SplitLoad
first_load [] = None
first_load (p ∷ ps) = Some p.load
