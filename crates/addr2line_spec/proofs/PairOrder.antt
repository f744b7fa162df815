-- Lists put in order have the same elements, and as many.
use Rattle.std.proofs.Common.{◌≡◌, ◌+◌, ◌≤◌, Bool, true, false, cond, List, [], ◌∷◌, length, filter, refl, sym, ap, ◌∙◌, arith}
use Rattle.gimli_lines_machine.specs.Range.{Range}
use Rattle.addr2line_spec.specs.Orders.{put_in_order, in_order}
use Rattle.addr2line_spec.specs.Pairs.{Pair, pairs_from, all_pairs, ends_after}

module _ {X : Type 0} (comes_after : X → X → Bool) (kind : X → Bool) where
  -- how many of a kind there are with one more in front
  one_more : (x : X) (xs : List X)
      → length (filter kind (x ∷ xs)) ≡ length (filter kind (x ∷ [])) + length (filter kind xs)
  one_more x xs =
      elim (kind x) as (λ b. length (cond b (x ∷ filter kind xs) (filter kind xs))
      ≡ length (cond b (x ∷ []) []) + length (filter kind xs)) [
        | true ↦ omega arith
        | false ↦ omega arith
      ]

  put_keeps : (x : X) (ys : List X)
      → length (filter kind (put_in_order comes_after x ys)) ≡ length (filter kind (x ∷ ys))
  put_keeps x [] = refl
  put_keeps x (y ∷ ys) =
      elim (comes_after x y) as (λ b. length (filter kind (cond b (y ∷ put_in_order comes_after x ys) (x ∷ y ∷ ys)))
      ≡ length (filter kind (x ∷ y ∷ ys))) [
        | true ↦ omega (
          arith,
          one_more y (put_in_order comes_after x ys),
          put_keeps x ys,
          one_more x ys,
          one_more x (y ∷ ys),
          one_more y ys,
        )
        | false ↦ refl
      ]

  pub order_keeps : (xs : List X) → length (filter kind (in_order comes_after xs)) ≡ length (filter kind xs)
  order_keeps [] = refl
  order_keeps (x ∷ xs) =
      omega (
        arith,
        put_keeps x (in_order comes_after xs),
        order_keeps xs,
        one_more x
            (in_order comes_after xs),
        one_more x xs,
      )

  no_more : (xs : List X) → length (filter kind xs) ≤ 0 → filter kind xs ≡ []
  no_more xs h = nil_of (filter kind xs) h
    where
      nil_of : (ys : List X) → length ys ≤ 0 → ys ≡ []
      nil_of [] h = refl
      nil_of (y ∷ ys) h = absurd (omega arith)

  -- an element that isn't of a kind, put in order, leaves those of the kind as they are
  put_other : (x : X) (ys : List X) → kind x ≡ false → filter kind (put_in_order comes_after x ys) ≡ filter kind ys
  put_other x [] h = ap (λ b. cond b (x ∷ []) []) h
  put_other x (y ∷ ys) h =
      elim (comes_after x y) as (λ b. filter kind (cond b (y ∷ put_in_order comes_after x ys) (x ∷ y ∷ ys))
      ≡ filter kind (y ∷ ys)) [
        | true ↦ ap (λ l. cond (kind y) (y ∷ l) l) (put_other x ys h)
        | false ↦ ap (λ b. cond b (x ∷ filter kind (y ∷ ys)) (filter kind (y ∷ ys))) h
      ]

  -- one that is, among others that aren't, is the only one
  put_only : (x : X) (ys : List X) → kind x ≡ true → filter kind ys ≡ []
      → filter kind (put_in_order comes_after x ys) ≡ x ∷ []
  put_only x [] h none = ap (λ b. cond b (x ∷ []) []) h
  put_only x (y ∷ ys) h none =
      let later = filter kind (put_in_order comes_after x ys) in
      elim (comes_after x y) as (λ b. filter kind (cond b (y ∷ put_in_order comes_after x ys) (x ∷ y ∷ ys)) ≡ x ∷ []) [
        | true ↦ elim (kind y) as (λ b. cond b (y ∷ filter kind ys) (filter kind ys) ≡ []
            → cond b (y ∷ later) later ≡ x ∷ []) [
              | true ↦ λ wrong. cc
              | false ↦ λ clear. put_only x ys h clear
            ] none
        | false ↦ ap (λ b. cond b (x ∷ filter kind (y ∷ ys)) (filter kind (y ∷ ys))) h ∙ ap (λ l. x ∷ l) none
      ]

  -- where one element at most is of a kind, an order doesn't touch those that are
  pub order_of_one : (xs : List X) → length (filter kind xs) ≤ 1
      → filter kind (in_order comes_after xs) ≡ filter kind xs
  order_of_one [] h = refl
  order_of_one (x ∷ xs) h =
      elim (kind x) as (λ b. kind x ≡ b → length (cond b (x ∷ filter kind xs) (filter kind xs)) ≤ 1
      → filter kind (put_in_order comes_after x (in_order comes_after xs))
      ≡ cond b (x ∷ filter kind xs) (filter kind xs)) [
        | true ↦ λ e few.
            put_only x (in_order comes_after xs) e (no_more (in_order comes_after xs) (omega (arith, order_keeps xs)))
            ∙ ap (λ l. x ∷ l) (sym (no_more xs (omega arith)))
        | false ↦ λ e few. put_other x (in_order comes_after xs) e ∙ order_of_one xs few
      ] refl h

pub no_pair_is_lost : {U : Type 0} (ranges : U → List Range) (us : List U) (kind : Pair U → Bool)
    → length (filter kind (all_pairs ranges us)) ≡ length (filter kind (pairs_from ranges 0 us))
no_pair_is_lost ranges us kind = order_keeps ends_after kind (pairs_from ranges 0 us)
