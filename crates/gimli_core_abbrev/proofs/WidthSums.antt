-- Sums of the widths of the first of some values.
use Rattle.std.proofs.Common.{◌≡◌, ℕ, zero, suc, ◌+◌, ◌*◌, List, [], ◌∷◌, ◌++◌, drop, Option, Some, None, refl, ap, ◌∙◌, arith}
use Rattle.std.specs.Prelude.{option_map, option_and_then}
use Rattle.std.proofs.Math.Nat.{add-mul}
use Rattle.gimli_core_abbrev.specs.FormWidths.{sum_of_first}

abbrev some : ℕ → Option ℕ
some n = Some n

-- the width of one more joins the sum
pub sum_of_first-more : {A : Type 0} (width : A → Option ℕ) (n : ℕ) (xs rest : List A) (x : A) (t m : ℕ)
    → drop n xs ≡ x ∷ rest → sum_of_first width n xs ≡ Some t → width x ≡ Some m
    → sum_of_first width (suc n) xs ≡ Some (t + m)
unfolding sum_of_first
sum_of_first-more {A} width zero xs rest x t m d h k =
    let start : some zero ≡ some t = h in
    let zero_is : zero ≡ t = cc in
    let same : m + zero ≡ t + m = omega (arith, zero_is) in
    rw (d, k) (ap some same)
sum_of_first-more {A} width (suc n) [] rest x t m d h k = absurd cc
sum_of_first-more {A} width (suc n) (y ∷ ys) rest x t m d h k =
    by_parts (width y) (sum_of_first width n ys) h (λ r e. sum_of_first-more width n ys rest x r m d e k)
  where
    by_parts : (o p : Option ℕ) → option_and_then (λ w. option_map (λ r. w + r) p) o ≡ Some t
        → ((r : ℕ) → p ≡ Some r → sum_of_first width (suc n) ys ≡ Some (r + m))
        → option_and_then (λ w. option_map (λ r. w + r) (sum_of_first width (suc n) ys)) o ≡ Some (t + m)
    by_parts None p h g = absurd cc
    by_parts (Some w) None h g = absurd cc
    by_parts (Some w) (Some r) h g =
        let whole : some (w + r) ≡ some t = h in
        let is : w + r ≡ t = cc in
        let same : w + (r + m) ≡ t + m = omega (arith, is) in
        ap (λ (o : Option ℕ). option_map (λ (k : ℕ). w + k) o) (g r refl) ∙ ap some same

-- sums of products
pub products_add : (b c r a d q o p u s t : ℕ) → r ≡ b + c → q ≡ a + d → u ≡ o + p
    → r + q * s + u * t ≡ b + a * s + o * t + (c + d * s + p * t)
products_add b c r a d q o p u s t h k l =
    rw (h, k, l) (omega (arith, add-mul a d s, add-mul o p t))

-- further values change nothing
pub sum_of_first-further : {A : Type 0} (width : A → Option ℕ) (n : ℕ) (xs more : List A) (t : ℕ)
    → sum_of_first width n xs ≡ Some t → sum_of_first width n (xs ++ more) ≡ Some t
unfolding sum_of_first
sum_of_first-further width zero xs more t h = h
sum_of_first-further width (suc n) [] more t h = absurd cc
sum_of_first-further {A} width (suc n) (y ∷ ys) more t h =
    by_parts (width y) (sum_of_first width n ys) h (λ r e. sum_of_first-further width n ys more r e)
  where
    by_parts : (o p : Option ℕ) → option_and_then (λ w. option_map (λ r. w + r) p) o ≡ Some t
        → ((r : ℕ) → p ≡ Some r → sum_of_first width n (ys ++ more) ≡ Some r)
        → option_and_then (λ w. option_map (λ r. w + r) (sum_of_first width n (ys ++ more))) o ≡ Some t
    by_parts None p h g = absurd cc
    by_parts (Some w) None h g = absurd cc
    by_parts (Some w) (Some r) h g = ap (λ (o : Option ℕ). option_map (λ (k : ℕ). w + k) o) (g r refl) ∙ h
