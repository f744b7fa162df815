-- The last of a list in order that passes a test is the greatest that passes it.
use Rattle.std.proofs.Common.{◌≡◌, Bool, true, false, cond, List, [], ◌∷◌, filter, Option, Some, None, refl, ap, sym, ◌∙◌, subst}
use Rattle.std.specs.Cmp.{IsStrictWeakOrder}
use Rattle.std.specs.List.{last_or}
use Rattle.addr2line_spec.specs.Orders.{put_in_order, in_order}
use Rattle.addr2line_index.proofs.SortedOrder.{after, NotLess, NotLess-lower, Ascends, Ascends-in_order}

-- of an element and those after it the greatest by an order, of those that tie the last
abbrev pub greater_of : {X : Type 0} → (X → X → Bool) → X → Option X → X
greater_of lt x None = x
greater_of lt x (Some y) = cond (lt y x) x y

abbrev pub greatest : {X : Type 0} → (X → X → Bool) → List X → Option X
greatest lt [] = None
greatest lt (x ∷ xs) = Some (greater_of lt x (greatest lt xs))

-- the last of a list, or an element before it
abbrev last_after : {X : Type 0} → X → Option X → X
last_after x None = x
last_after x (Some y) = y

last_or-some : {X : Type 0} (x : X) (ys : List X) → last_or (Some x) ys ≡ Some (last_after x (last_or None ys))
last_or-some x [] = refl
last_or-some x (y ∷ ys) = last_or-some y ys ∙ sym (ap (λ l. Some (last_after x l)) (last_or-some y ys))

module _ {X : Type 0} (lt : X → X → Bool) (o : IsStrictWeakOrder lt) (p : X → Bool) where
  abbrev last_of : List X → Option X
  last_of xs = last_or None (filter p xs)

  last_of-more : (x : X) (xs : List X) → last_of (x ∷ xs) ≡ cond (p x) (Some (last_after x (last_of xs))) (last_of xs)
  last_of-more x xs =
      elim (p x) as (λ b. last_or None (cond b (x ∷ filter p xs) (filter p xs))
      ≡ cond b (Some (last_after x (last_of xs))) (last_of xs)) [
        | true ↦ last_or-some x (filter p xs)
        | false ↦ refl
      ]

  -- an element, if any, isn't less than another
  abbrev NoneLess : X → Option X → Type 0
  NoneLess x None = Unit {0}
  NoneLess x (Some y) = lt y x ≡ false

  last_of-not_less : (x : X) (ys : List X) → NotLess lt o x ys → NoneLess x (last_of ys)
  last_of-not_less x [] h = tt
  last_of-not_less x (y ∷ ys) h =
      let rest = last_of-not_less x ys h.1 in
      let after_it : (l : Option X) → NoneLess x l → NoneLess x (Some (last_after y l)) =
      elim [ None ↦ λ _. h.0 | Some z ↦ λ k. k ] in
      subst (NoneLess x) (sym (last_of-more y ys))
      (elim (p y) as (λ b. NoneLess x (cond b (Some (last_after y (last_of ys))) (last_of ys))) [
        | true ↦ after_it (last_of ys) rest
        | false ↦ rest
      ])

  greater-after : (x : X) (l : Option X) → NoneLess x l → last_after x l ≡ greater_of lt x l
  greater-after x None h = refl
  greater-after x (Some y) h = sym (ap (λ b. cond b x y) h)

  before_it : (x y : X) (l : Option X) (px py : Bool) → lt y x ≡ true
      → cond py (Some (last_after y (cond px (Some (greater_of lt x l)) l))) (cond px (Some (greater_of lt x l)) l)
      ≡ cond px (Some (greater_of lt x (cond py (Some (last_after y l)) l))) (cond py (Some (last_after y l)) l)
  before_it x y None true true h = sym (ap (λ b. Some (cond b x y)) h)
  before_it x y (Some z) true true h = refl
  before_it x y l true false h = refl
  before_it x y l false true h = refl
  before_it x y l false false h = refl

  put-last : (x : X) (ys : List X) → Ascends lt o ys
      → last_of (put_in_order (after lt o) x ys) ≡ cond (p x) (Some (greater_of lt x (last_of ys))) (last_of ys)
  put-last x [] up = last_of-more x []
  put-last x (y ∷ ys) up =
      elim (lt y x) as (λ b. lt y x ≡ b
      → last_of (cond b (y ∷ put_in_order (after lt o) x ys) (x ∷ y ∷ ys))
      ≡ cond (p x) (Some (greater_of lt x (last_of (y ∷ ys)))) (last_of (y ∷ ys))) [
        | true ↦ λ less.
            last_of-more y (put_in_order (after lt o) x ys)
            ∙ ap (λ l. cond (p y) (Some (last_after y l)) l) (put-last x ys up.1)
            ∙ before_it x y (last_of ys) (p x) (p y) less
            ∙ ap (λ l. cond (p x) (Some (greater_of lt x l)) l) (sym (last_of-more y ys))
        | false ↦ λ not_less.
            last_of-more x (y ∷ ys)
            ∙ ap (λ z. cond (p x) (Some z) (last_of (y ∷ ys)))
            (greater-after x (last_of (y ∷ ys))
            (last_of-not_less x (y ∷ ys) (not_less, NotLess-lower lt o x y ys not_less up.0)))
      ] refl

  pub last_of-in_order : (xs : List X) → last_or None (filter p (in_order (after lt o) xs)) ≡ greatest lt (filter p xs)
  last_of-in_order [] = refl
  last_of-in_order (x ∷ xs) =
      put-last x (in_order (after lt o) xs) (Ascends-in_order lt o xs)
      ∙ ap (λ l. cond (p x) (Some (greater_of lt x l)) l) (last_of-in_order xs)
      ∙ elim (p x) as (λ b. cond b (Some (greater_of lt x (greatest lt (filter p xs)))) (greatest lt (filter p xs))
      ≡ greatest lt (cond b (x ∷ filter p xs) (filter p xs))) [
        | true ↦ refl
        | false ↦ refl
      ]
