-- The number of a pair is the index of its item.
use Rattle.std.proofs.Common.{◌≡◌, ℕ, ◌+◌, Bool, List, [], ◌∷◌, ◌++◌, length, map, filter, slice_get, Option, Some, None, option_map, refl, sym, ap, subst, ◌∙◌, arith, append_assoc, length-append}
use Rattle.std.specs.List.{AllByRecursion}
use Rattle.gimli_units_entries.specs.Range.{Range}
use Rattle.addr2line_ranges.specs.Choice.{holder}
use Rattle.addr2line_ranges.specs.Pairs.{Pair, pairs_of, pairs_from}
use Rattle.addr2line_ranges.proofs.RangeHolders.{holder_is, all_of_filter}

module _ {U : Type 0} (ranges : U → List Range) where
  -- the item of a pair is at its number
  abbrev pub IsAt : List U → Pair U → Type 0
  IsAt us p = slice_get us p.number ≡ Some p.unit

  at_place : (before : List U) (u : U) (us : List U) → slice_get (before ++ u ∷ us) (length before) ≡ Some u
  at_place [] u us = refl
  at_place (b ∷ before) u us = at_place before u us

  both_all : {X : Type 0} (P : X → Type 0) (xs ys : List X) → AllByRecursion P xs → AllByRecursion P ys
      → AllByRecursion P (xs ++ ys)
  both_all P [] ys h k = k
  both_all P (x ∷ xs) ys h k = (h.0, both_all P xs ys h.1 k)

  all_of_one : (us : List U) (n : ℕ) (u : U) (rs : List Range) → slice_get us n ≡ Some u
      → AllByRecursion (IsAt us) (map (λ r. record { range = r; number = n; unit = u }) rs)
  all_of_one us n u [] h = tt
  all_of_one us n u (r ∷ rs) h = (h, all_of_one us n u rs h)

  all_at : (n : ℕ) (before us : List U) → n ≡ length before
      → AllByRecursion (IsAt (before ++ us)) (pairs_from ranges n us)
  all_at n before [] h = tt
  all_at n before (u ∷ us) h =
      let more : n + 1 ≡ length (before ++ u ∷ []) = omega (arith, length-append before (u ∷ [])) in
      let rest : AllByRecursion (IsAt ((before ++ u ∷ []) ++ us)) (pairs_from ranges (n + 1) us) =
      all_at (n + 1) (before ++ u ∷ []) us more in
      let P : List U → Type 0 = λ all. AllByRecursion (IsAt all) (pairs_from ranges (n + 1) us) in
      both_all (IsAt (before ++ u ∷ us)) (pairs_of ranges n u) (pairs_from ranges (n + 1) us)
      (all_of_one (before ++ u ∷ us) n u (ranges u) (ap (slice_get (before ++ u ∷ us)) h ∙ at_place before u us))
      (subst P (append_assoc before (u ∷ []) us) rest)

  module _ (keep : Pair U → Bool) (a : ℕ) (us : List U) where
    -- the pair that holds an address, among those that are kept
    abbrev pub pair_at : Option (Pair U)
    pair_at = holder (λ (q : Pair U). q.range) a (filter keep (pairs_from ranges 0 us))

    -- what holds an address is the item at its number
    holder_at : (p : Pair U) → pair_at ≡ Some p → slice_get us p.number ≡ Some p.unit
    holder_at p e =
        holder_is (λ (q : Pair U). q.range) (IsAt us) a (filter keep (pairs_from ranges 0 us)) p
        (all_of_filter (IsAt us) keep (pairs_from ranges 0 us) (all_at 0 [] us refl)) e

    -- the item of the number that holds an address
    pub item_at : (n : ℕ) → option_map (λ (p : Pair U). p.number) pair_at ≡ Some n
        → slice_get us n ≡ option_map (λ (p : Pair U). p.unit) pair_at
    item_at n e = by pair_at refl e
      where
        by : (o : Option (Pair U)) → pair_at ≡ o
            → option_map (λ (p : Pair U). p.number) o ≡ Some n → slice_get us n ≡ option_map (λ (p : Pair U). p.unit) o
        by None found e = absurd cc
        by (Some p) found e = let same : p.number ≡ n = cc in ap (slice_get us) (sym same) ∙ holder_at p found

    -- without a number there is none
    pub no_item : option_map (λ (p : Pair U). p.number) pair_at ≡ None
        → option_map (λ (p : Pair U). p.unit) pair_at ≡ None
    no_item e = by pair_at e
      where
        by : (o : Option (Pair U)) → option_map (λ (p : Pair U). p.number) o ≡ None
            → option_map (λ (p : Pair U). p.unit) o ≡ None
        by None e = refl
        by (Some p) e = absurd cc
