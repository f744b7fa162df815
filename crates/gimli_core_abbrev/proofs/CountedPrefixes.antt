-- How many of the first values pass a test, up to a limit, where one more value comes.
use Rattle.std.proofs.Common.{◌≡◌, ℕ, suc, ◌+◌, ◌<◌, ◌≤◌, Bool, true, false, cond, List, [], ◌∷◌, ◌++◌, length, ◌⊎◌, inl, inr, refl, sym, ap, ◌∙◌, arith}
use Rattle.std.specs.Prelude.{min}
use Rattle.std.specs.List.{prefix_len}
use Rattle.std.proofs.lemmas.Bool.{cases_lt}
use Rattle.std.proofs.lemmas.List.Sums.{prefix_len-le-length}

-- no fewer do
more_pass : {A : Type 0} (p : A → Bool) (xs : List A) (x : A) → prefix_len p xs ≤ prefix_len p (xs ++ x ∷ [])
more_pass p [] x = omega arith
more_pass {A} p (y ∷ ys) x = by_test (p y) (more_pass p ys x)
  where
    by_test : (b : Bool) → prefix_len p ys ≤ prefix_len p (ys ++ x ∷ [])
        → cond b (1 + prefix_len p ys) 0 ≤ cond b (1 + prefix_len p (ys ++ x ∷ [])) 0
    by_test true fewer = omega (arith, fewer)
    by_test false fewer = omega arith

-- nothing is added after one that fails
none_after_failed : {A : Type 0} (p : A → Bool) (xs : List A) (x : A) → prefix_len p xs < length xs
    → prefix_len p (xs ++ x ∷ []) ≡ prefix_len p xs
none_after_failed p [] x h = absurd (omega arith)
none_after_failed {A} p (y ∷ ys) x h = by_test (p y) h (λ less. none_after_failed p ys x less)
  where
    by_test : (b : Bool) → cond b (1 + prefix_len p ys) 0 < suc (length ys)
        → (prefix_len p ys < length ys → prefix_len p (ys ++ x ∷ []) ≡ prefix_len p ys)
        → cond b (1 + prefix_len p (ys ++ x ∷ [])) 0 ≡ cond b (1 + prefix_len p ys) 0
    by_test true less same = ap (λ (n : ℕ). 1 + n) (same (omega (arith, less)))
    by_test false less same = refl

-- one that fails isn't counted
not_failed : {A : Type 0} (p : A → Bool) (xs : List A) (x : A) → p x ≡ false
    → prefix_len p (xs ++ x ∷ []) ≡ prefix_len p xs
not_failed p [] x fails = ap (λ (b : Bool). cond b (1 + 0) 0) fails
not_failed p (y ∷ ys) x fails = ap (λ (n : ℕ). cond (p y) (1 + n) 0) (not_failed p ys x fails)

-- one that passes after others that all do is counted
one_more : {A : Type 0} (p : A → Bool) (xs : List A) (x : A) → prefix_len p xs ≡ length xs → p x ≡ true
    → prefix_len p (xs ++ x ∷ []) ≡ length xs + 1
one_more p [] x all passes = ap (λ (b : Bool). cond b (1 + 0) 0) passes
one_more {A} p (y ∷ ys) x all passes = by_test (p y) all (λ is. one_more p ys x is passes)
  where
    by_test : (b : Bool) → cond b (1 + prefix_len p ys) 0 ≡ suc (length ys)
        → (prefix_len p ys ≡ length ys → prefix_len p (ys ++ x ∷ []) ≡ length ys + 1)
        → cond b (1 + prefix_len p (ys ++ x ∷ [])) 0 ≡ suc (length ys) + 1
    by_test true h more =
        let is : prefix_len p ys ≡ length ys = omega (arith, h) in
        let one = more is in
        omega (arith, one)
    by_test false h more = absurd (omega (arith, h))

-- ---- up to a limit k, where c are counted and there is room for r more

pub counted_within : {A : Type 0} (p : A → Bool) (k c : ℕ) (xs : List A) → c ≡ min k (prefix_len p xs)
    → c ≤ length xs
counted_within p k c xs count = let within = prefix_len-le-length p xs in omega (arith, count, within)

-- one is counted where there is room
pub counted_more : {A : Type 0} (p : A → Bool) (k c r : ℕ) (xs : List A) (x : A) → c ≡ min k (prefix_len p xs)
    → c ≡ length xs → c + r ≡ k → 0 < r → p x ≡ true → c + 1 ≡ min k (prefix_len p (xs ++ x ∷ []))
counted_more p k c r xs x count all rest room passes =
    let every : prefix_len p xs ≡ length xs = omega (arith, count, all, rest, room) in
    let more = one_more p xs x every passes in
    omega (arith, more, all, rest, room)

-- none is where there is no room
pub counted_full : {A : Type 0} (p : A → Bool) (k c r : ℕ) (xs : List A) (x : A) → c ≡ min k (prefix_len p xs)
    → (c ≡ length xs → c + r ≡ k) → r ≡ 0 → c ≡ min k (prefix_len p (xs ++ x ∷ []))
counted_full {A} p k c r xs x count rest full =
    by_order (cases_lt c (length xs)) (cases_lt (prefix_len p xs) (length xs))
  where
    by_order : ((c < length xs) ⊎ (length xs ≤ c)) → ((prefix_len p xs < length xs) ⊎ (length xs ≤ prefix_len p xs))
        → c ≡ min k (prefix_len p (xs ++ x ∷ []))
    by_order fewer (inl less) = count ∙ ap (min k) (sym (none_after_failed p xs x less))
    by_order (inl fewer) (inr all) =
        let more = more_pass p xs x in
        omega (arith, count, fewer, all, more)
    by_order (inr every) (inr all) =
        let is : c ≡ length xs = omega (arith, every, counted_within p k c xs count) in
        let no_more = rest is in
        let more = more_pass p xs x in
        omega (arith, count, no_more, full, more)

-- one that fails isn't
pub counted_failed : {A : Type 0} (p : A → Bool) (k c : ℕ) (xs : List A) (x : A) → c ≡ min k (prefix_len p xs)
    → p x ≡ false → c ≡ min k (prefix_len p (xs ++ x ∷ []))
counted_failed p k c xs x count fails = count ∙ ap (min k) (sym (not_failed p xs x fails))
