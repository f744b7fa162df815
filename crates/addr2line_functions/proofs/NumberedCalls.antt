-- The calls of numbers each of which is that of a call.
use Rattle.std.proofs.Common.{◌≡◌, ℕ, List, [], ◌∷◌, map, slice_get, Some, refl, ap, ◌∙◌}
use Rattle.std.specs.List.{cons_option}
use Rattle.addr2line_ranges.specs.InlinedCalls.{Call}
use Rattle.addr2line_functions.specs.CallNumbers.{calls_of_numbers}

module _ (cs : List Call) where
  -- where the numbers are those of these calls
  pub numbers_of_calls : (found : List Call) (ns : List ℕ) → map (slice_get cs) ns ≡ map Some found
      → calls_of_numbers cs ns ≡ found
  numbers_of_calls [] [] is = refl
  numbers_of_calls (c ∷ found) [] is = absurd cc
  numbers_of_calls [] (n ∷ ns) is = absurd cc
  numbers_of_calls (c ∷ found) (n ∷ ns) is =
      let first : slice_get cs n ≡ Some c = cc in
      let others : map (slice_get cs) ns ≡ map Some found = cc in
      ap (λ o. cons_option o (calls_of_numbers cs ns)) first
      ∙ ap (λ l. c ∷ l) (numbers_of_calls found ns others)
