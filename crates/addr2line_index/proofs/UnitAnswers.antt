-- The answers of units, by the ranges that cover an address.
use Rattle.std.proofs.Common.{◌≡◌, ℕ, ◌+◌, Bool, true, false, cond, List, [], ◌∷◌, ◌++◌, length, map, filter, slice_get, Some, refl, sym, ap, ◌∙◌, append_assoc, length-append, arith}
use Rattle.std.proofs.lemmas.Simd.{map-map}
use Rattle.std.proofs.lemmas.List.{map-append}
use Rattle.addr2line_spec.specs.Range.{Range}
use Rattle.addr2line_spec.specs.Choice.{holds}
use Rattle.addr2line_spec.specs.Orders.{put_in_order, in_order}
use Rattle.addr2line_spec.specs.Pairs.{Pair, pairs_of, pairs_from, all_pairs, ends_after, covering_pairs}
use Rattle.addr2line_spec.specs.PlaceLookups.{first_answer, place_or_refusal}
use Rattle.addr2line_index.specs.declared.unit_range.UnitRange.{UnitRange}
use Rattle.addr2line_index.specs.NumberedRanges.{numbered_range, unit_ranges, covering_ranges}
use Rattle.addr2line_index.specs.UnitPlaces.{UnitPlaces, ranges_in_order, location_of, answer_of, answer_at}
use Rattle.addr2line_index.specs.RangeIndexLaws.{answer_from}
use Rattle.addr2line_index.proofs.StableOrder.{in_order-map}

-- ---- pairs have the units of their numbers

module _ {U : Type 0} (ranges : U → List Range) (P : Pair U → Type 0) where
  abbrev pub Each : List (Pair U) → Type 0
  Each [] = Unit {0}
  Each (p ∷ ps) = P p × Each ps

  Each-append : (ps qs : List (Pair U)) → Each ps → Each qs → Each (ps ++ qs)
  Each-append [] qs h k = k
  Each-append (p ∷ ps) qs h k = (h.0, Each-append ps qs h.1 k)

  Each-put : (p : Pair U) (qs : List (Pair U)) → P p → Each qs → Each (put_in_order ends_after p qs)
  Each-put p [] h k = (h, tt)
  Each-put p (q ∷ qs) h k =
      elim (ends_after p q) as (λ b. Each (cond b (q ∷ put_in_order ends_after p qs) (p ∷ q ∷ qs))) [
        | true ↦ (k.0, Each-put p qs h k.1)
        | false ↦ (h, k)
      ]

  Each-in_order : (ps : List (Pair U)) → Each ps → Each (in_order ends_after ps)
  Each-in_order [] h = tt
  Each-in_order (p ∷ ps) h = Each-put p (in_order ends_after ps) h.0 (Each-in_order ps h.1)

  pub Each-filter : (keep : Pair U → Bool) (ps : List (Pair U)) → Each ps → Each (filter keep ps)
  Each-filter keep [] h = tt
  Each-filter keep (p ∷ ps) h =
      elim (keep p) as (λ b. Each (cond b (p ∷ filter keep ps) (filter keep ps))) [
        | true ↦ (h.0, Each-filter keep ps h.1)
        | false ↦ Each-filter keep ps h.1
      ]

  Each-pairs_of : (n : ℕ) (u : U) (rs : List Range) → ((r : Range) → P (record { range = r; number = n; unit = u }))
      → Each (map (λ r. record { range = r; number = n; unit = u }) rs)
  Each-pairs_of n u [] h = tt
  Each-pairs_of n u (r ∷ rs) h = (h r, Each-pairs_of n u rs h)

module _ {U : Type 0} (ranges : U → List Range) where
  -- the unit of a pair is at its number
  abbrev pub IsAt : List U → Pair U → Type 0
  IsAt all p = slice_get all p.number ≡ Some p.unit

  get_append : (front : List U) (u : U) (us : List U) → slice_get (front ++ u ∷ us) (length front) ≡ Some u
  get_append [] u us = refl
  get_append (x ∷ xs) u us = get_append xs u us

  pairs_at : (front us all : List U) (n : ℕ) → n ≡ length front → all ≡ front ++ us
      → Each ranges (IsAt all) (pairs_from ranges n us)
  pairs_at front [] all n count whole = tt
  pairs_at front (u ∷ us) all n count whole =
      Each-append ranges (IsAt all) (pairs_of ranges n u) (pairs_from ranges (n + 1) us)
      (Each-pairs_of ranges (IsAt all) n u (ranges u)
      (λ r. ap (λ l. slice_get l n) whole ∙ ap (slice_get (front ++ u ∷ us)) count ∙ get_append front u us))
      (pairs_at (front ++ u ∷ []) us all (n + 1) (omega (arith, length-append front (u ∷ [])))
      (whole ∙ sym (append_assoc front (u ∷ []) us)))

  pub all_pairs_at : (us : List U) → Each ranges (IsAt us) (all_pairs ranges us)
  all_pairs_at us = Each-in_order ranges (IsAt us) (pairs_from ranges 0 us) (pairs_at [] us us 0 refl refl)

  pub covering_at : (us : List U) (a : ℕ) → Each ranges (IsAt us) (covering_pairs ranges us a)
  covering_at us a = Each-filter ranges (IsAt us) (λ p. holds a p.range) (all_pairs ranges us) (all_pairs_at us)

-- ---- the ranges that cover an address are those of the pairs

filter-numbered : {U : Type 0} (a : ℕ) (ps : List (Pair U))
    → covering_ranges a (map numbered_range ps) ≡ map numbered_range (filter (λ p. holds a p.range) ps)
filter-numbered a [] = refl
filter-numbered a (p ∷ ps) =
    elim (holds a p.range) as (λ b.
    cond b (numbered_range p ∷ covering_ranges a (map numbered_range ps))
    (covering_ranges a (map numbered_range ps))
    ≡ map numbered_range (cond b (p ∷ filter (λ p. holds a p.range) ps) (filter (λ p. holds a p.range) ps))) [
      | true ↦ ap (λ l. numbered_range p ∷ l) (filter-numbered a ps)
      | false ↦ filter-numbered a ps
    ]

-- a pair that holds its unit's ranges in place of the unit
abbrev pair_of_ranges : {U : Type 0} → (U → List Range) → Pair U → Pair (List Range)
pair_of_ranges ranges p = record { range = p.range; number = p.number; unit = ranges p.unit }

pair_of_ranges-pairs_of : {U : Type 0} (ranges : U → List Range) (n : ℕ) (u : U)
    → pairs_of (λ (rs : List Range). rs) n (ranges u) ≡ map (pair_of_ranges ranges) (pairs_of ranges n u)
pair_of_ranges-pairs_of ranges n u =
    sym (map-map (pair_of_ranges ranges) (λ r. record { range = r; number = n; unit = u }) (ranges u))

pair_of_ranges-pairs : {U : Type 0} (ranges : U → List Range) (n : ℕ) (us : List U)
    → pairs_from (λ (rs : List Range). rs) n (map ranges us) ≡ map (pair_of_ranges ranges) (pairs_from ranges n us)
pair_of_ranges-pairs ranges n [] = refl
pair_of_ranges-pairs ranges n (u ∷ us) =
    ap (λ l. l ++ pairs_from (λ (rs : List Range). rs) (n + 1) (map ranges us)) (pair_of_ranges-pairs_of ranges n u)
    ∙ ap (λ l. map (pair_of_ranges ranges) (pairs_of ranges n u) ++ l) (pair_of_ranges-pairs ranges (n + 1) us)
    ∙ sym (map-append (pair_of_ranges ranges) (pairs_of ranges n u) (pairs_from ranges (n + 1) us))

pub unit_ranges-map : {U : Type 0} (ranges : U → List Range) (us : List U)
    → unit_ranges (map ranges us) ≡ map numbered_range (all_pairs ranges us)
unit_ranges-map ranges us =
    ap (λ l. map numbered_range (in_order ends_after l)) (pair_of_ranges-pairs ranges 0 us)
    ∙ ap (map numbered_range)
    (in_order-map (pair_of_ranges ranges) ends_after ends_after (λ p q. refl) (pairs_from ranges 0 us))
    ∙ map-map numbered_range (pair_of_ranges ranges) (all_pairs ranges us)

pub covering-map : {U : Type 0} (ranges : U → List Range) (us : List U) (a : ℕ)
    → covering_ranges a (unit_ranges (map ranges us)) ≡ map numbered_range (covering_pairs ranges us a)
covering-map ranges us a = ap (covering_ranges a) (unit_ranges-map ranges us) ∙ filter-numbered a (all_pairs ranges us)

-- ---- what the ranges answer

abbrev ranges_in : UnitPlaces → List Range
ranges_in u = u.ranges

answers_by_numbers : (us : List UnitPlaces) (a : ℕ) (ps : List (Pair UnitPlaces))
    → Each ranges_in (IsAt ranges_in us) ps
    → map (λ p. place_or_refusal a p.unit.lines) ps ≡ map (λ r. answer_at us a r.unit) (map numbered_range ps)
answers_by_numbers us a [] h = refl
answers_by_numbers us a (p ∷ ps) h =
    ap (λ o. answer_of a o ∷ map (λ q. place_or_refusal a q.unit.lines) ps) (sym h.0)
    ∙ ap (λ l. answer_at us a p.number ∷ l) (answers_by_numbers us a ps h.1)

pub location_by_numbers : (us : List UnitPlaces) (a : ℕ) (rs : List UnitRange)
    → rs ≡ covering_ranges a (ranges_in_order us)
    → location_of us a ≡ answer_from us a rs
location_by_numbers us a rs e =
    ap first_answer (answers_by_numbers us a (covering_pairs ranges_in us a) (covering_at ranges_in us a))
    ∙ ap (answer_from us a) (sym (e ∙ covering-map ranges_in us a))
