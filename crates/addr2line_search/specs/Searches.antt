-- What a search finds in a list, and how many entries it may look at.
use Rattle.std.specs.Prelude.{◌≡◌, ℕ, ◌+◌, ◌≤◌, Bool, length, List, filter, Option, None}
use Rattle.std.specs.Int.Digits.{digits_of}
use Rattle.std.specs.List.{last_or}
use Rattle.addr2line_search.specs.ProbedLists.{ProbeCount}

-- the last that passes a test
abbrev pub last_passing : {X : Type 0} → (X → Bool) → List X → Option X
last_passing p xs = last_or None (filter p xs)

-- how many binary digits a number has, none for 0
abbrev pub digit_count : ℕ → ℕ
digit_count n = length (digits_of 2 n)

-- a call looked at no more than n entries, and counted them with this counter
abbrev pub AtMostProbes : ℕ → ProbeCount → ProbeCount → Type 0
AtMostProbes n old new = (new.name ≡ old.name) × (new.count ≤ old.count + n)
