-- The ranges of items with the items' numbers: of one item more, and the one that holds an address.
use Rattle.std.proofs.Common.{◌≡◌, ℕ, ◌+◌, Bool, ◌==◌, List, [], ◌∷◌, ◌++◌, length, map, filter, slice_get, Option, Some, None, option_map, Result, Ok, refl, sym, ap, ◌∙◌, arith, append_assoc, append-nil}
use Rattle.std.proofs.lemmas.List.{map-append}
use Rattle.std.proofs.lemmas.Simd.{map-map}
use Rattle.gimli_units_entries.specs.Error.{Error}
use Rattle.gimli_units_entries.specs.Range.{Range}
use Rattle.addr2line_ranges.specs.Choice.{holder}
use Rattle.addr2line_ranges.specs.Pairs.{Pair, pairs_of, pairs_from}
use Rattle.addr2line_ranges.specs.Functions.{Function, ranges_of_function, function_ranges, function_number, function_at}
use Rattle.addr2line_ranges.proofs.HolderViews.{filter-view, holder-view}
use Rattle.addr2line_functions.specs.CountedFunctions.{no_depth}
use Rattle.addr2line_functions.specs.declared.numbered_range.NumberedRange.{NumberedRange}
use Rattle.addr2line_functions.specs.RangesByNumber.{depth_of, range_of, number_of, of_number, numbered_range, numbered_ranges, number_at}
use Rattle.addr2line_functions.proofs.PairNumbers.{item_at}

module _ {U : Type 0} (depth : U → ℕ) (ranges : U → List Range) where
  -- ---- one item more

  numbered-pairs : (n : ℕ) (u : U)
      → map (numbered_range depth) (pairs_of ranges n u) ≡ of_number (depth u) n (ranges u)
  numbered-pairs n u = map-map (numbered_range depth) (λ r. record { range = r; number = n; unit = u }) (ranges u)

  pairs-append : (n : ℕ) (us : List U) (u : U)
      → map (numbered_range depth) (pairs_from ranges n (us ++ u ∷ []))
      ≡ map (numbered_range depth) (pairs_from ranges n us) ++ of_number (depth u) (n + length us) (ranges u)
  pairs-append n [] u =
      let same : n ≡ n + 0 = omega arith in
      ap (map (numbered_range depth)) (append-nil (pairs_of ranges n u)) ∙ numbered-pairs n u
      ∙ ap (λ k. of_number (depth u) k (ranges u)) same
  pairs-append n (x ∷ us) u =
      let here = pairs_of ranges n x in
      let same : n + 1 + length us ≡ n + length (x ∷ us) = omega arith in
      map-append (numbered_range depth) here (pairs_from ranges (n + 1) (us ++ u ∷ []))
      ∙ ap (λ l. map (numbered_range depth) here ++ l) (pairs-append (n + 1) us u)
      ∙ sym (append_assoc (map (numbered_range depth) here) (map (numbered_range depth) (pairs_from ranges (n + 1) us))
      (of_number (depth u) (n + 1 + length us) (ranges u)))
      ∙ ap (λ l. l ++ of_number (depth u) (n + 1 + length us) (ranges u))
      (sym (map-append (numbered_range depth) here (pairs_from ranges (n + 1) us)))
      ∙ ap (λ k. map (numbered_range depth) (pairs_from ranges n (x ∷ us)) ++ of_number (depth u) k (ranges u)) same

  -- with its ranges those of all are numbered
  pub numbered_ranges-more : (us vs : List U) (u : U) (all more : List NumberedRange) (d n : ℕ) (rs : List Range)
      → all ≡ numbered_ranges depth ranges us → more ≡ all ++ of_number d n rs → d ≡ depth u → rs ≡ ranges u
      → n ≡ length us → vs ≡ us ++ u ∷ [] → more ≡ numbered_ranges depth ranges vs
  numbered_ranges-more us vs u all more d n rs numbered is at has last with =
      let place : n ≡ 0 + length us = omega arith in
      is ∙ ap (λ l. l ++ of_number d n rs) numbered
      ∙ ap (λ k. numbered_ranges depth ranges us ++ of_number k n rs) at
      ∙ ap (λ l. numbered_ranges depth ranges us ++ of_number (depth u) n l) has
      ∙ ap (λ k. numbered_ranges depth ranges us ++ of_number (depth u) k (ranges u)) place
      ∙ sym (pairs-append 0 us u) ∙ ap (numbered_ranges depth ranges) (sym with)

  -- ---- the one that holds an address

  abbrev is_at : ℕ → Pair U → Bool
  is_at d p = depth p.unit == d

  number_of_pair : (o : Option (Pair U))
      → option_map number_of (option_map (numbered_range depth) o) ≡ option_map (λ (p : Pair U). p.number) o
  number_of_pair None = refl
  number_of_pair (Some p) = refl

  -- is that of the pair which holds it, among those of a depth
  pub number_at-is : (d a : ℕ) (us : List U)
      → number_at d a (numbered_ranges depth ranges us)
      ≡ option_map (λ (p : Pair U). p.number)
      (holder (λ (p : Pair U). p.range) a (filter (λ (p : Pair U). depth p.unit == d) (pairs_from ranges 0 us)))
  number_at-is d a us =
      let ps = pairs_from ranges 0 us in
      ap (λ l. option_map number_of (holder range_of a l))
      (filter-view (numbered_range depth) range_of (λ r. depth_of r == d) ps)
      ∙ ap (option_map number_of) (holder-view (numbered_range depth) range_of a (filter (is_at d) ps))
      ∙ number_of_pair (holder (λ (p : Pair U). p.range) a (filter (is_at d) ps))

-- ---- functions, which are all at one depth

all_at_0 : (ps : List (Pair Function)) → filter (λ (p : Pair Function). no_depth p.unit == 0) ps ≡ ps
all_at_0 [] = refl
all_at_0 (p ∷ ps) = ap (λ l. p ∷ l) (all_at_0 ps)

pub number_at-function : (a : ℕ) (fs : List Function)
    → number_at 0 a (numbered_ranges no_depth ranges_of_function fs) ≡ function_number fs a
number_at-function a fs =
    number_at-is no_depth ranges_of_function 0 a fs
    ∙ ap (λ l. option_map (λ (p : Pair Function). p.number) (holder (λ (p : Pair Function). p.range) a l))
    (all_at_0 (function_ranges fs))

pub function_of_number : (a : ℕ) (fs : List Function) (n : ℕ) → function_number fs a ≡ Some n
    → slice_get fs n ≡ function_at fs a
function_of_number a fs n e =
    let all = ap (λ l. holder (λ (p : Pair Function). p.range) a l) (all_at_0 (function_ranges fs)) in
    item_at ranges_of_function (λ (p : Pair Function). no_depth p.unit == 0) a fs n
    (ap (option_map (λ (p : Pair Function). p.number)) all ∙ e)
    ∙ ap (option_map (λ (p : Pair Function). p.unit)) all

-- a result that is a value
abbrev pub ok_ranges : List NumberedRange → Result (List NumberedRange) Error
ok_ranges rs = Ok rs

pub ranges_of_ok : (rs ss : List NumberedRange) → ok_ranges rs ≡ ok_ranges ss → rs ≡ ss
ranges_of_ok rs ss same = cc
