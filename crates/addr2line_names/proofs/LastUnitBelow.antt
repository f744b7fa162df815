-- The last unit that begins below an offset, of units in the order of their offsets: it comes before the point where
-- those end that begin below it.
use Rattle.std.proofs.Common.{◌≡◌, ℕ, zero, suc, ◌+◌, ◌<◌, ◌≤◌, Bool, true, false, cond, List, [], ◌∷◌, length, slice_get, map, filter, Option, Some, None, option_map, refl, ap, ◌∙◌, subst, arith}
use Rattle.std.specs.List.{last_or}
use Rattle.std.specs.List.Sorted.{IsNonDecreasingBy, IsPartitionPoint}
use Rattle.std.proofs.Math.ListN.{get_or-map}
use Rattle.std.proofs.lemmas.List.{length-map}

last_or_more : {A : Type 0} (b : Bool) (o : Option A) (y : A) (rest : List A)
    → last_or o (cond b (y ∷ rest) rest) ≡ last_or (cond b (Some y) o) rest
last_or_more true o y rest = refl
last_or_more false o y rest = refl

module _ {X A : Type 0} (f : X → A) where
  -- what is in order by what f gives of it
  pub order_of_mapped : (n : A → ℕ) (xs : List X) → IsNonDecreasingBy n (map f xs) → IsNonDecreasingBy (λ x. n (f x)) xs
  order_of_mapped n xs h i j d le below =
      let long = length-map xs f in
      let here = h i j (f d) le (omega (arith, long)) in
      omega (arith, ap n (get_or-map f xs i d), ap n (get_or-map f xs j d), here)

  module _ (p : A → Bool) where
    abbrev pub IsPoint : List X → ℕ → Type 0
    IsPoint xs n = IsPartitionPoint (λ x. p (f x) ≡ true) (λ x. p (f x) ≡ false) xs n

    last_more : (o : Option A) (x : X) (xs : List X) (b : Bool) → p (f x) ≡ b
        → last_or o (filter p (map f (x ∷ xs))) ≡ last_or (cond b (Some (f x)) o) (filter p (map f xs))
    last_more o x xs b is =
        last_or_more (p (f x)) o (f x) (filter p (map f xs))
        ∙ ap (λ c. last_or (cond c (Some (f x)) o) (filter p (map f xs))) is

    later_fail : (x : X) (xs : List X) → IsPoint (x ∷ xs) 0 → IsPoint xs 0
    later_fail x xs h =
        (λ k d from to. absurd (omega arith), λ k d from to. h.1 (suc k) d (omega arith) (omega arith))

    later : (n : ℕ) (x : X) (xs : List X) → IsPoint (x ∷ xs) (suc n) → IsPoint xs n
    later n x xs h = (
      λ k d from to. h.0 (suc k) d (omega arith) (omega arith),
      λ k d from to. h.1 (suc k) d (omega arith) (omega arith),
    )

    none_below : (o : Option A) (xs : List X) → IsPoint xs 0 → last_or o (filter p (map f xs)) ≡ o
    none_below o [] h = refl
    none_below o (x ∷ xs) h =
        last_more o x xs false (h.1 0 x (omega arith) (omega arith)) ∙ none_below o xs (later_fail x xs h)

    last_below : (n : ℕ) (o : Option A) (xs : List X) → n < length xs → IsPoint xs (suc n)
        → last_or o (filter p (map f xs)) ≡ option_map f (slice_get xs n)
    last_below n o [] within h = absurd (omega arith)
    last_below zero o (x ∷ xs) within h =
        last_more o x xs true (h.0 0 x (omega arith) (omega arith)) ∙ none_below (Some (f x)) xs (later 0 x xs h)
    last_below (suc n) o (x ∷ xs) within h =
        last_more o x xs true (h.0 0 x (omega arith) (omega arith))
        ∙ last_below n (Some (f x)) xs (omega arith) (later (suc n) x xs h)

    pub none_before_point : (n : ℕ) (xs : List X) → n ≡ 0 → IsPoint xs n → last_or None (filter p (map f xs)) ≡ None
    none_before_point n xs none h = none_below None xs (subst (IsPoint xs) none h)

    pub last_before_point : (n k : ℕ) (xs : List X) → n ≡ k + 1 → n ≤ length xs → IsPoint xs n
        → last_or None (filter p (map f xs)) ≡ option_map f (slice_get xs k)
    last_before_point n k xs is within h =
        let next : n ≡ suc k = omega arith in
        last_below k None xs (omega arith) (subst (IsPoint xs) next h)
