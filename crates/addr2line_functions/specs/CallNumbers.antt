-- The calls of a function by their numbers.
use Rattle.std.specs.Prelude.{◌≡◌, ℕ, List, [], ◌∷◌, ◌++◌, slice_get, Option, Some, None}
use Rattle.std.specs.List.{filter_map}
use Rattle.addr2line_ranges.specs.InlinedCalls.{Call}

-- the calls of these numbers; a call's number is its index among all
abbrev pub calls_of_numbers : List Call → List ℕ → List Call
calls_of_numbers cs ns = filter_map (slice_get cs) ns

-- the last of the calls of these numbers, if there is one, and the numbers before its own
abbrev pub IsLastCall : List Call → List ℕ → Option (Call × List ℕ) → Type 0
IsLastCall cs ns None = calls_of_numbers cs ns ≡ []
IsLastCall cs ns (Some x) = calls_of_numbers cs ns ≡ calls_of_numbers cs x.1 ++ x.0 ∷ []
