-- A stable sort by an order puts elements in the order of the definition.
use Rattle.std.proofs.Common.{◌≡◌, ℕ, zero, suc, ◌<◌, ◌≤◌, Bool, true, false, cond, List, [], ◌∷◌, length, get_or, filter, refl, ap, sym, ◌∙◌, arith, rules, tests}
use Rattle.std.specs.Cmp.{IsStrictWeakOrder}
use Rattle.std.specs.List.Sorted.{IsSortedBy, IsStableBy, ties}
use Rattle.std.proofs.lemmas.List.Sorted.{sorted_far}
use Rattle.addr2line_spec.specs.Orders.{put_in_order, in_order}

tail_of : {X : Type 0} (b : Bool) (x y : X) (xs ys : List X) → cond b (x ∷ xs) xs ≡ cond b (y ∷ ys) ys → xs ≡ ys
tail_of true x y xs ys e = cc
tail_of false x y xs ys e = e

swap : {X : Type 0} (first second : Bool) (x y : X) (zs : List X) → (first ≡ true → second ≡ true → ⊥)
    → cond second (y ∷ cond first (x ∷ zs) zs) (cond first (x ∷ zs) zs)
    ≡ cond first (x ∷ cond second (y ∷ zs) zs) (cond second (y ∷ zs) zs)
swap true true x y zs h = absurd (h refl refl)
swap true false x y zs h = refl
swap false second x y zs h = refl

-- a list in order has as many elements
put-length : {X : Type 0} (comes_after : X → X → Bool) (x : X) (ys : List X)
    → length (put_in_order comes_after x ys) ≡ suc (length ys)
put-length comes_after x [] = refl
put-length comes_after x (y ∷ ys) =
    elim (comes_after x y) as (λ b. length (cond b (y ∷ put_in_order comes_after x ys) (x ∷ y ∷ ys))
    ≡ suc (length (y ∷ ys))) [
      | true ↦ ap suc (put-length comes_after x ys)
      | false ↦ refl
    ]

pub in_order-length : {X : Type 0} (comes_after : X → X → Bool) (xs : List X)
    → length (in_order comes_after xs) ≡ length xs
in_order-length comes_after [] = refl
in_order-length comes_after (x ∷ xs) =
    put-length comes_after x (in_order comes_after xs) ∙ ap suc (in_order-length comes_after xs)

module _ {X : Type 0} (lt : X → X → Bool) (o : IsStrictWeakOrder lt) where
  -- an element is after those that are less
  abbrev pub after : X → X → Bool
  after x y = lt y x

  -- none is less than an element
  abbrev pub NotLess : X → List X → Type 0
  NotLess x [] = Unit {0}
  NotLess x (y ∷ ys) = (lt y x ≡ false) × NotLess x ys

  -- none is less than one before it
  abbrev pub Ascends : List X → Type 0
  Ascends [] = Unit {0}
  Ascends (x ∷ xs) = NotLess x xs × Ascends xs

  -- the elements that tie with one
  abbrev class : X → List X → List X
  class a xs = filter (ties lt a) xs

  lt_same : (x : X) → lt x x ≡ false
  lt_same x =
      elim (lt x x) as (λ b. lt x x ≡ b → b ≡ false) [
        | true ↦ λ e. sym e ∙ o.one_way x x e
        | false ↦ λ _. refl
      ] refl

  ties_same : (x : X) → ties lt x x ≡ true
  ties_same x = rw (lt_same x) refl

  ties_less : (x y : X) → lt x y ≡ true → ties lt x y ≡ false
  ties_less x y h = rw h refl

  ties_neither : (x y : X) → lt x y ≡ false → lt y x ≡ false → ties lt x y ≡ true
  ties_neither x y h k = rw (h, k) refl

  ties_not : (x y : X) → ties lt x y ≡ true → (lt x y ≡ false) × (lt y x ≡ false)
  ties_not x y h = search (rules, tests)

  pub NotLess-lower : (x y : X) (zs : List X) → lt y x ≡ false → NotLess y zs → NotLess x zs
  NotLess-lower x y [] h r = tt
  NotLess-lower x y (z ∷ zs) h r = (o.chain z y x r.0 h, NotLess-lower x y zs h r.1)

  NotLess-from_places : (x : X) (ys : List X) → ((j : ℕ) (d : X) → j < length ys → lt (get_or ys j d) x ≡ false)
      → NotLess x ys
  NotLess-from_places x [] h = tt
  NotLess-from_places x (y ∷ ys) h =
      (h 0 y (omega arith), NotLess-from_places x ys (λ j d b. h (suc j) d (omega arith)))

  Ascends-from_places : (xs : List X)
      → ((i j : ℕ) (d : X) → i ≤ j → j < length xs → lt (get_or xs j d) (get_or xs i d) ≡ false) → Ascends xs
  Ascends-from_places [] h = tt
  Ascends-from_places (x ∷ xs) h = (
    NotLess-from_places x xs (λ j d b. h 0 (suc j) d (omega arith) (omega arith)),
    Ascends-from_places xs (λ i j d l b. h (suc i) (suc j) d (omega arith) (omega arith)),
  )

  -- nothing ties with what is less than the first
  class-less : (a y : X) (ys : List X) → lt a y ≡ true → NotLess y ys → class a ys ≡ []
  class-less a y [] h r = refl
  class-less a y (z ∷ zs) h r =
      let less : lt a z ≡ true =
      elim (lt a z) as (λ b. lt a z ≡ b → b ≡ true) [
        | true ↦ λ _. refl
        | false ↦ λ e. let wrong = o.chain a z y e r.0 in absurd (cc)
      ] refl in
      ap (λ b. cond b (z ∷ class a zs) (class a zs)) (ties_less a z less) ∙ class-less a y zs h r.1

  class-same : (x : X) (xs : List X) → class x (x ∷ xs) ≡ x ∷ class x xs
  class-same x xs = ap (λ b. cond b (x ∷ class x xs) (class x xs)) (ties_same x)

  class-first : (x y : X) (ys : List X) → lt x y ≡ true → NotLess y ys → class x (y ∷ ys) ≡ []
  class-first x y ys h r =
      ap (λ b. cond b (y ∷ class x ys) (class x ys)) (ties_less x y h) ∙ class-less x y ys h r

  -- lists that ascend and have the same elements that tie with each are the same
  same_from_classes : (xs ys : List X) → Ascends xs → Ascends ys → ((a : X) → class a xs ≡ class a ys) → xs ≡ ys
  same_from_classes [] [] up down h = refl
  same_from_classes [] (y ∷ ys) up down h =
      let e : [] ≡ y ∷ class y ys = h y ∙ class-same y ys in cc
  same_from_classes (x ∷ xs) [] up down h =
      let e : [] ≡ x ∷ class x xs = sym (h x) ∙ class-same x xs in cc
  same_from_classes (x ∷ xs) (y ∷ ys) up down h =
      elim (lt x y) as (λ b. lt x y ≡ b → x ∷ xs ≡ y ∷ ys) [
        | true ↦ λ below.
            let e : x ∷ class x xs ≡ [] = sym (class-same x xs) ∙ h x ∙ class-first x y ys below down.0 in cc
        | false ↦ λ not_below. elim (lt y x) as (λ b. lt y x ≡ b → x ∷ xs ≡ y ∷ ys) [
          | true ↦ λ above.
              let e : y ∷ class y ys ≡ [] = sym (class-same y ys) ∙ sym (h y) ∙ class-first y x xs above up.0 in cc
          | false ↦ λ not_above.
              let e : x ∷ class x xs ≡ y ∷ class x ys =
              sym (class-same x xs) ∙ h x
              ∙ ap (λ b. cond b (y ∷ class x ys) (class x ys)) (ties_neither x y not_below not_above) in
              let same : x ≡ y = cc in
              let tails : (a : X) → class a xs ≡ class a ys = λ a.
              tail_of (ties lt a x) x y (class a xs) (class a ys)
              (h a ∙ ap (λ z. cond (ties lt a z) (y ∷ class a ys) (class a ys)) (sym same)) in
              let rest = same_from_classes xs ys up.1 down.1 tails in
              cc
        ] refl
      ] refl

  -- putting an element in order keeps those that tie with one, in their order
  put-class : (a x : X) (ys : List X) → class a (put_in_order after x ys) ≡ class a (x ∷ ys)
  put-class a x [] = refl
  put-class a x (y ∷ ys) =
      let placed = λ (b : Bool). class a (cond b (y ∷ put_in_order after x ys) (x ∷ y ∷ ys)) in
      let once : lt y x ≡ true → ties lt a x ≡ true → ties lt a y ≡ true → ⊥ = λ less first second.
      let wrong = o.chain y a x (ties_not a y second).1 (ties_not a x first).0 in cc in
      elim (lt y x) as (λ b. lt y x ≡ b → placed b ≡ class a (x ∷ y ∷ ys)) [
        | true ↦ λ less.
            ap (λ c. cond (ties lt a y) (y ∷ c) c) (put-class a x ys)
            ∙ swap (ties lt a x) (ties lt a y) x y (class a ys) (once less)
        | false ↦ λ _. refl
      ] refl

  in_order-class : (a : X) (xs : List X) → class a (in_order after xs) ≡ class a xs
  in_order-class a [] = refl
  in_order-class a (x ∷ xs) =
      put-class a x (in_order after xs) ∙ ap (λ c. cond (ties lt a x) (x ∷ c) c) (in_order-class a xs)

  NotLess-put : (low x : X) (ys : List X) → lt x low ≡ false → NotLess low ys → NotLess low (put_in_order after x ys)
  NotLess-put low x [] h r = (h, tt)
  NotLess-put low x (y ∷ ys) h r =
      elim (lt y x) as (λ b. NotLess low (cond b (y ∷ put_in_order after x ys) (x ∷ y ∷ ys))) [
        | true ↦ (r.0, NotLess-put low x ys h r.1)
        | false ↦ (h, r)
      ]

  Ascends-put : (x : X) (ys : List X) → Ascends ys → Ascends (put_in_order after x ys)
  Ascends-put x [] up = (tt, tt)
  Ascends-put x (y ∷ ys) up =
      elim (lt y x) as (λ b. lt y x ≡ b → Ascends (cond b (y ∷ put_in_order after x ys) (x ∷ y ∷ ys))) [
        | true ↦ λ less. (NotLess-put y x ys (o.one_way y x less) up.0, Ascends-put x ys up.1)
        | false ↦ λ not_less. ((not_less, NotLess-lower x y ys not_less up.0), up)
      ] refl

  pub Ascends-in_order : (xs : List X) → Ascends (in_order after xs)
  Ascends-in_order [] = tt
  Ascends-in_order (x ∷ xs) = Ascends-put x (in_order after xs) (Ascends-in_order xs)

  NotLess-at : (x : X) (ys : List X) → NotLess x ys → (j : ℕ) (d : X) → j < length ys → lt (get_or ys j d) x ≡ false
  NotLess-at x [] h j d b = absurd (omega arith)
  NotLess-at x (y ∷ ys) h zero d b = h.0
  NotLess-at x (y ∷ ys) h (suc j) d b = NotLess-at x ys h.1 j d (omega arith)

  -- none is less than one at or before its place
  pub Ascends-at : (xs : List X) → Ascends xs → (i j : ℕ) (d : X) → i ≤ j → j < length xs
      → lt (get_or xs j d) (get_or xs i d) ≡ false
  Ascends-at [] up i j d le b = absurd (omega arith)
  Ascends-at (x ∷ xs) up zero zero d le b = lt_same x
  Ascends-at (x ∷ xs) up zero (suc j) d le b = NotLess-at x xs up.0 j d (omega arith)
  Ascends-at (x ∷ xs) up (suc i) zero d le b = absurd (omega arith)
  Ascends-at (x ∷ xs) up (suc i) (suc j) d le b = Ascends-at xs up.1 i j d (omega arith) (omega arith)

  -- what a stable sort makes of a list is the list in order
  pub in_order-sorted : (xs sorted : List X) → IsSortedBy lt sorted → IsStableBy lt xs sorted
      → sorted ≡ in_order after xs
  in_order-sorted xs sorted up stable =
      same_from_classes sorted (in_order after xs) (Ascends-from_places sorted (sorted_far lt o sorted up))
      (Ascends-in_order xs)
      (λ a. stable a ∙ sym (in_order-class a xs))
