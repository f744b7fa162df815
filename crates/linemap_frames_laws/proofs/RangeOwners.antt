-- What holds an address among ranges with their owners is the first owner that does, where no two ranges overlap.
use Rattle.std.proofs.Common.{◌≡◌, ℕ, ◌+◌, Bool, true, false, cond, ◌&&◌, ◌||◌, List, [], ◌∷◌, ◌++◌, map, filter, find, Option, Some, None, option_map, refl, ap, ◌∙◌}
use Rattle.std.specs.List.{list_any}
use Rattle.std.specs.Option.{option_or}
use Rattle.std.proofs.lemmas.List.{map-append}
use Rattle.std.proofs.lemmas.List.Elements.{filter-append}
use Rattle.std.proofs.lemmas.List.Folds.{find-append}
use Rattle.linemap_places_laws.specs.Range.{Range}
use Rattle.linemap_places_laws.specs.Choice.{holds, holder}
use Rattle.linemap_places_laws.specs.LookupLaws.{are_apart}
use Rattle.linemap_places_laws.specs.Pairs.{Pair, pairs_of, pairs_from}
use Rattle.linemap_places_laws.proofs.SeparateRanges.{holds_once}
use Rattle.linemap_frames_laws.specs.CallAgreement.{OneByOne, Likewise}

-- ---- lists side by side

pub find_likewise : {A B : Type 0} (R : A → B → Type 0) (p : A → Bool) (q : B → Bool)
    → ((x : A) (y : B) → R x y → p x ≡ q y) → (xs : List A) (ys : List B) → OneByOne R xs ys
    → Likewise R (find p xs) (find q ys)
find_likewise R p q same [] [] h = tt
find_likewise R p q same [] (y ∷ ys) h = absurd h
find_likewise R p q same (x ∷ xs) [] h = absurd h
find_likewise R p q same (x ∷ xs) (y ∷ ys) h = by_case (p x) (q y) (same x y h.0) (find_likewise R p q same xs ys h.1)
  where
    by_case : (b c : Bool) → b ≡ c → Likewise R (find p xs) (find q ys)
        → Likewise R (cond b (Some x) (find p xs)) (cond c (Some y) (find q ys))
    by_case true true e rest = h.0
    by_case true false e rest = absurd cc
    by_case false true e rest = absurd cc
    by_case false false e rest = rest

map_or : {A B : Type 0} (f : A → B) (o p : Option A)
    → option_map f (option_or o p) ≡ option_or (option_map f o) (option_map f p)
map_or f None p = refl
map_or f (Some x) p = refl

if_or : {A : Type 0} (b : Bool) (x : A) (o : Option A) → option_or (cond b (Some x) None) o ≡ cond b (Some x) o
if_or true x o = refl
if_or false x o = refl

module _ {U : Type 0} (ranges : U → List Range) (kind : U → Bool) where
  -- ---- the ranges of some

  abbrev pub ranges_among : List U → List Range
  ranges_among [] = []
  ranges_among (u ∷ us) = cond (kind u) (ranges u) [] ++ ranges_among us

  abbrev is_kind : Pair U → Bool
  is_kind p = kind p.unit

  abbrev pair : ℕ → U → Range → Pair U
  pair n u r = record { range = r; number = n; unit = u }

  kept_pairs : (n : ℕ) (u : U) (rs : List Range) (b : Bool) → kind u ≡ b
      → filter is_kind (map (pair n u) rs) ≡ cond b (map (pair n u) rs) []
  kept_pairs n u [] true e = refl
  kept_pairs n u [] false e = refl
  kept_pairs n u (r ∷ rs) true e =
      ap (λ c. cond c (pair n u r ∷ filter is_kind (map (pair n u) rs)) (filter is_kind (map (pair n u) rs))) e
      ∙ ap (λ l. pair n u r ∷ l) (kept_pairs n u rs true e)
  kept_pairs n u (r ∷ rs) false e =
      ap (λ c. cond c (pair n u r ∷ filter is_kind (map (pair n u) rs)) (filter is_kind (map (pair n u) rs))) e
      ∙ kept_pairs n u rs false e

  ranges_again : (n : ℕ) (u : U) (rs : List Range) → map (λ (p : Pair U). p.range) (map (pair n u) rs) ≡ rs
  ranges_again n u [] = refl
  ranges_again n u (r ∷ rs) = ap (λ l. r ∷ l) (ranges_again n u rs)

  ranges_of_one : (n : ℕ) (u : U) (b : Bool)
      → map (λ (p : Pair U). p.range) (cond b (map (pair n u) (ranges u)) []) ≡ cond b (ranges u) []
  ranges_of_one n u true = ranges_again n u (ranges u)
  ranges_of_one n u false = refl

  pub ranges_of_pairs : (n : ℕ) (us : List U)
      → map (λ (p : Pair U). p.range) (filter is_kind (pairs_from ranges n us)) ≡ ranges_among us
  ranges_of_pairs n [] = refl
  ranges_of_pairs n (u ∷ us) =
      ap (λ (l : List (Pair U)). map (λ (p : Pair U). p.range) l)
      (filter-append is_kind (pairs_of ranges n u) (pairs_from ranges (n + 1) us))
      ∙ map-append (λ (p : Pair U). p.range) (filter is_kind (pairs_of ranges n u))
      (filter is_kind (pairs_from ranges (n + 1) us))
      ∙ ap (λ l. map (λ (p : Pair U). p.range) l ++ map (λ (p : Pair U). p.range)
      (filter is_kind (pairs_from ranges (n + 1) us))) (kept_pairs n u (ranges u) (kind u) refl)
      ∙ ap (λ l. l ++ map (λ (p : Pair U). p.range) (filter is_kind (pairs_from ranges (n + 1) us)))
      (ranges_of_one n u (kind u))
      ∙ ap (λ l. cond (kind u) (ranges u) [] ++ l) (ranges_of_pairs (n + 1) us)

  -- ---- the first that holds an address

  module _ (a : ℕ) where
    abbrev holding : Pair U → Bool
    holding p = holds a p.range

    abbrev owner : Option (Pair U) → Option U
    owner o = option_map (λ p. p.unit) o

    owner_of_one : (n : ℕ) (u : U) (rs : List Range)
        → owner (find holding (map (pair n u) rs)) ≡ cond (list_any (holds a) rs) (Some u) None
    owner_of_one n u [] = refl
    owner_of_one n u (r ∷ rs) = by_case (holds a r) (owner_of_one n u rs)
      where
        by_case : (b : Bool) → owner (find holding (map (pair n u) rs)) ≡ cond (list_any (holds a) rs) (Some u) None
            → owner (cond b (Some (pair n u r)) (find holding (map (pair n u) rs)))
            ≡ cond (b || list_any (holds a) rs) (Some u) None
        by_case true rest = refl
        by_case false rest = rest

    owner_of_kind : (n : ℕ) (u : U) (b : Bool) → owner (find holding (cond b (map (pair n u) (ranges u)) []))
        ≡ cond (b && list_any (holds a) (ranges u)) (Some u) None
    owner_of_kind n u true = owner_of_one n u (ranges u)
    owner_of_kind n u false = refl

    pub owner_found : (n : ℕ) (us : List U) → owner (find holding (filter is_kind (pairs_from ranges n us)))
        ≡ find (λ u. kind u && list_any (holds a) (ranges u)) us
    owner_found n [] = refl
    owner_found n (u ∷ us) =
        ap (λ l. owner (find holding l)) (filter-append is_kind (pairs_of ranges n u) (pairs_from ranges (n + 1) us))
        ∙ ap owner (find-append holding (filter is_kind (pairs_of ranges n u))
        (filter is_kind (pairs_from ranges (n + 1) us)))
        ∙ map_or (λ (p : Pair U). p.unit) (find holding (filter is_kind (pairs_of ranges n u)))
        (find holding (filter is_kind (pairs_from ranges (n + 1) us)))
        ∙ ap (λ l. option_or (owner (find holding l))
        (owner (find holding (filter is_kind (pairs_from ranges (n + 1) us)))))
        (kept_pairs n u (ranges u) (kind u) refl)
        ∙ ap (λ o. option_or o (owner (find holding (filter is_kind (pairs_from ranges (n + 1) us)))))
        (owner_of_kind n u (kind u))
        ∙ ap (λ o. option_or (cond (kind u && list_any (holds a) (ranges u)) (Some u) None) o) (owner_found (n + 1) us)
        ∙ if_or (kind u && list_any (holds a) (ranges u)) u (find (λ u. kind u && list_any (holds a) (ranges u)) us)

    pub first_owner : (us : List U) → are_apart (ranges_among us) ≡ true
        → owner (holder (λ p. p.range) a (filter is_kind (pairs_from ranges 0 us)))
        ≡ find (λ u. kind u && list_any (holds a) (ranges u)) us
    first_owner us apart =
        ap owner (holds_once (λ (p : Pair U). p.range) a (filter is_kind (pairs_from ranges 0 us))
        (ap are_apart (ranges_of_pairs 0 us) ∙ apart))
        ∙ owner_found 0 us
