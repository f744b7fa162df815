-- A stable sort by a number puts elements in the order of the definition.
use Rattle.std.proofs.Common.{◌≡◌, ℕ, suc, ◌<◌, ◌≤◌, Bool, true, false, not, cond, nat_lt, List, [], ◌∷◌, length, get_or, map, filter, refl, ap, sym, ◌∙◌, inl, inr, subst, arith, rules, tests}
use Rattle.std.specs.Prelude.{◌&&◌}
use Rattle.std.specs.Ordering.{nat_cmp, is_lt}
use Rattle.std.specs.List.Sorted.{IsNonDecreasingBy}
use Rattle.std.proofs.lemmas.Bool.{cases_lt, lt-ltb, le-ltb}
use Rattle.addr2line_spec.specs.Orders.{put_in_order, in_order}

-- two numbers tie, as a sort says it
abbrev pub tie : ℕ → ℕ → Bool
tie a b = not (is_lt (nat_cmp a b)) && not (is_lt (nat_cmp b a))

tie-same : (a : ℕ) → tie a a ≡ true
tie-same a = search (rules, tests)

tie-below : (a b : ℕ) → a < b → tie a b ≡ false
tie-below a b h = search (rules, tests)

tie-above : (a b : ℕ) → b < a → tie a b ≡ false
tie-above a b h = search (rules, tests)

tail_of : {X : Type 0} (b : Bool) (x y : X) (xs ys : List X) → cond b (x ∷ xs) xs ≡ cond b (y ∷ ys) ys → xs ≡ ys
tail_of true x y xs ys e = cc
tail_of false x y xs ys e = e

-- a number ties with one of two that differ at most
pub tie-once : (a s t : ℕ) → t < s → tie a s ≡ true → tie a t ≡ true → ⊥
tie-once a s t h is is' =
    elim (cases_lt a s) [
      | inl below ↦ let e = tie-below a s below in cc
      | inr above ↦ let e = tie-above a t (omega arith) in cc
    ]

swap : {X : Type 0} (first second : Bool) (x y : X) (zs : List X) → (first ≡ true → second ≡ true → ⊥)
    → cond second (y ∷ cond first (x ∷ zs) zs) (cond first (x ∷ zs) zs)
    ≡ cond first (x ∷ cond second (y ∷ zs) zs) (cond second (y ∷ zs) zs)
swap true true x y zs h = absurd (h refl refl)
swap true false x y zs h = refl
swap false second x y zs h = refl

module _ {X : Type 0} (n : X → ℕ) where
  -- an element is after those of lower numbers
  abbrev pub by_number : X → X → Bool
  by_number x y = nat_lt (n y) (n x)

  -- each is at or above a bound
  abbrev pub NotBelow : ℕ → List X → Type 0
  NotBelow low [] = Unit {0}
  NotBelow low (x ∷ xs) = (low ≤ n x) × NotBelow low xs

  -- each is at or above those before it
  abbrev pub Ascends : List X → Type 0
  Ascends [] = Unit {0}
  Ascends (x ∷ xs) = NotBelow (n x) xs × Ascends xs

  -- the elements that tie with a number
  abbrev pub class : ℕ → List X → List X
  class a xs = filter (λ x. tie a (n x)) xs

  pub NotBelow-lower : (low high : ℕ) (xs : List X) → low ≤ high → NotBelow high xs → NotBelow low xs
  NotBelow-lower low high [] h r = tt
  NotBelow-lower low high (x ∷ xs) h r = (omega arith, NotBelow-lower low high xs h r.1)

  NotBelow-from_places : (low : ℕ) (xs : List X) → ((j : ℕ) (d : X) → j < length xs → low ≤ n (get_or xs j d))
      → NotBelow low xs
  NotBelow-from_places low [] h = tt
  NotBelow-from_places low (x ∷ xs) h =
      (h 0 x (omega arith), NotBelow-from_places low xs (λ j d b. h (suc j) d (omega arith)))

  pub Ascends-from_places : (xs : List X) → IsNonDecreasingBy n xs → Ascends xs
  Ascends-from_places [] h = tt
  Ascends-from_places (x ∷ xs) h = (
    NotBelow-from_places (n x) xs (λ j d b. h 0 (suc j) d (omega arith) (omega arith)),
    Ascends-from_places xs
        (λ i j d l b. h (suc i) (suc j) d (omega arith) (omega arith)),
  )

  -- nothing ties with a number below all
  class-below : (a low : ℕ) (xs : List X) → a < low → NotBelow low xs → class a xs ≡ []
  class-below a low [] h r = refl
  class-below a low (x ∷ xs) h r =
      ap (λ b. cond b (x ∷ class a xs) (class a xs)) (tie-below a (n x) (omega arith)) ∙ class-below a low xs h r.1

  class-same : (x : X) (xs : List X) → class (n x) (x ∷ xs) ≡ x ∷ class (n x) xs
  class-same x xs = ap (λ b. cond b (x ∷ class (n x) xs) (class (n x) xs)) (tie-same (n x))

  -- lists that ascend and have the same elements at each number are the same
  same_from_classes : (xs ys : List X) → Ascends xs → Ascends ys → ((a : ℕ) → class a xs ≡ class a ys) → xs ≡ ys
  same_from_classes [] [] up down h = refl
  same_from_classes [] (y ∷ ys) up down h =
      let e : [] ≡ y ∷ class (n y) ys = h (n y) ∙ class-same y ys in cc
  same_from_classes (x ∷ xs) [] up down h =
      let e : [] ≡ x ∷ class (n x) xs = sym (h (n x)) ∙ class-same x xs in cc
  same_from_classes (x ∷ xs) (y ∷ ys) up down h =
      elim (cases_lt (n x) (n y)) [
        | inl below ↦
            let e : x ∷ class (n x) xs ≡ [] =
            sym (class-same x xs) ∙ h (n x) ∙ class-below (n x) (n y) (y ∷ ys) below (omega arith, down.0) in cc
        | inr rest ↦ elim (cases_lt (n y) (n x)) [
          | inl above ↦
              let e : y ∷ class (n y) ys ≡ [] =
              sym (class-same y ys) ∙ sym (h (n y)) ∙ class-below (n y) (n x) (x ∷ xs) above (omega arith, up.0) in
              cc
          | inr level ↦
              let equal : n y ≡ n x = omega arith in
              let e : x ∷ class (n x) xs ≡ y ∷ class (n y) ys =
              sym (class-same x xs) ∙ h (n x) ∙ ap (λ a. class a (y ∷ ys)) (sym equal) ∙ class-same y ys in
              let tails : (a : ℕ) → class a xs ≡ class a ys = λ a.
              tail_of (tie a (n x)) x y (class a xs) (class a ys)
              (h a ∙ ap (λ m. cond (tie a m) (y ∷ class a ys) (class a ys)) equal) in
              let rest_same = same_from_classes xs ys up.1 down.1 tails in
              cc
        ]
      ]

  -- putting an element in order keeps those that tie with a number, in their order
  put-class : (a : ℕ) (x : X) (ys : List X) → class a (put_in_order by_number x ys) ≡ class a (x ∷ ys)
  put-class a x [] = refl
  put-class a x (y ∷ ys) =
      let placed = λ (b : Bool). class a (cond b (y ∷ put_in_order by_number x ys) (x ∷ y ∷ ys)) in
      elim (cases_lt (n y) (n x)) [
        | inl below ↦
            ap placed (lt-ltb (n y) (n x) below)
            ∙ ap (λ c. cond (tie a (n y)) (y ∷ c) c) (put-class a x ys)
            ∙ swap (tie a (n x)) (tie a (n y)) x y (class a ys) (tie-once a (n x) (n y) below)
        | inr over ↦ ap placed (le-ltb (n y) (n x) over)
      ]

  in_order-class : (a : ℕ) (xs : List X) → class a (in_order by_number xs) ≡ class a xs
  in_order-class a [] = refl
  in_order-class a (x ∷ xs) =
      put-class a x (in_order by_number xs) ∙ ap (λ c. cond (tie a (n x)) (x ∷ c) c) (in_order-class a xs)

  NotBelow-put : (low : ℕ) (x : X) (ys : List X) → low ≤ n x → NotBelow low ys
      → NotBelow low (put_in_order by_number x ys)
  NotBelow-put low x [] h r = (h, tt)
  NotBelow-put low x (y ∷ ys) h r =
      let placed = λ (b : Bool). NotBelow low (cond b (y ∷ put_in_order by_number x ys) (x ∷ y ∷ ys)) in
      elim (cases_lt (n y) (n x)) [
        | inl below ↦ subst placed (sym (lt-ltb (n y) (n x) below)) (r.0, NotBelow-put low x ys h r.1)
        | inr over ↦ subst placed (sym (le-ltb (n y) (n x) over)) (h, r)
      ]

  Ascends-put : (x : X) (ys : List X) → Ascends ys → Ascends (put_in_order by_number x ys)
  Ascends-put x [] up = (tt, tt)
  Ascends-put x (y ∷ ys) up =
      let placed = λ (b : Bool). Ascends (cond b (y ∷ put_in_order by_number x ys) (x ∷ y ∷ ys)) in
      elim (cases_lt (n y) (n x)) [
        | inl below ↦ subst placed (sym (lt-ltb (n y) (n x) below))
            (NotBelow-put (n y) x ys (omega arith) up.0, Ascends-put x ys up.1)
        | inr over ↦ subst placed (sym (le-ltb (n y) (n x) over)) ((over, NotBelow-lower (n x) (n y) ys over up.0), up)
      ]

  Ascends-in_order : (xs : List X) → Ascends (in_order by_number xs)
  Ascends-in_order [] = tt
  Ascends-in_order (x ∷ xs) = Ascends-put x (in_order by_number xs) (Ascends-in_order xs)

  -- a list that ascends, with the same elements at each number in the same order, is the list in order
  pub in_order-ascending : (xs sorted : List X) → Ascends sorted → ((a : ℕ) → class a sorted ≡ class a xs)
      → sorted ≡ in_order by_number xs
  in_order-ascending xs sorted up same =
      same_from_classes sorted (in_order by_number xs) up (Ascends-in_order xs)
      (λ a. same a ∙ sym (in_order-class a xs))

-- ---- elements seen through a function

module _ {X Y : Type 0} (view : X → Y) (after_x : X → X → Bool) (after_y : Y → Y → Bool)
    (same : (x z : X) → after_y (view x) (view z) ≡ after_x x z) where
  put-map : (x : X) (ys : List X) → put_in_order after_y (view x) (map view ys) ≡ map view (put_in_order after_x x ys)
  put-map x [] = refl
  put-map x (y ∷ ys) =
      ap (λ b. cond b (view y ∷ put_in_order after_y (view x) (map view ys)) (view x ∷ view y ∷ map view ys))
      (same x y)
      ∙ elim (after_x x y) as (λ b.
      cond b (view y ∷ put_in_order after_y (view x) (map view ys)) (view x ∷ view y ∷ map view ys)
      ≡ map view (cond b (y ∷ put_in_order after_x x ys) (x ∷ y ∷ ys))) [
        | true ↦ ap (λ l. view y ∷ l) (put-map x ys)
        | false ↦ refl
      ]

  pub in_order-map : (xs : List X) → in_order after_y (map view xs) ≡ map view (in_order after_x xs)
  in_order-map [] = refl
  in_order-map (x ∷ xs) = ap (put_in_order after_y (view x)) (in_order-map xs) ∙ put-map x (in_order after_x xs)
