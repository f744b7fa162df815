-- Stretches put in order.
use Rattle.std.proofs.Common.{◌≡◌, ℕ, ◌+◌, ◌≤◌, Bool, true, false, cond, nat_le, List, [], ◌∷◌, length, filter, flat_map, refl, arith}
use Rattle.std.proofs.lemmas.Bool.{leb-false, le-leb, and_parts, and_from}
use Rattle.linemap_meaning.specs.Meaning.{Stretch, put_in_order, in_order, is_between, unit_stretches, stretches_between}
use Rattle.linemap_meaning.specs.TableParts.{UnitPart}
use Rattle.linemap_meaning.specs.StretchLaws.{ascend_from}

put_ascends : (low : ℕ) (s : Stretch) (ts : List Stretch) → low ≤ s.address → ascend_from low ts ≡ true
    → ascend_from low (put_in_order s ts) ≡ true
put_ascends low s [] le h = and_from _ _ (le-leb low s.address le) refl
put_ascends low s (t ∷ ts) le h =
    let p = and_parts (nat_le low t.address) (ascend_from t.address ts) h in
    elim (nat_le s.address t.address) as (λ b. nat_le s.address t.address ≡ b
    → ascend_from low (cond b (s ∷ t ∷ ts) (t ∷ put_in_order s ts)) ≡ true) [
      | true ↦ λ e. and_from _ _ (le-leb low s.address le) (and_from _ _ e p.1)
      | false ↦ λ e.
          let above = leb-false s.address t.address e in
          and_from _ _ p.0 (put_ascends t.address s ts (omega arith) p.1)
    ] refl

in_order-ascends : (ss : List Stretch) → ascend_from 0 (in_order ss) ≡ true
in_order-ascends [] = refl
in_order-ascends (s ∷ ss) = put_ascends 0 s (in_order ss) (omega arith) (in_order-ascends ss)

pub stretches_ascend : (us : List UnitPart) (low high : ℕ) → ascend_from 0 (stretches_between us low high) ≡ true
stretches_ascend us low high = in_order-ascends (filter (is_between low high) (flat_map unit_stretches us))

-- the number of stretches of a kind, with one more at the start
one_more : (kind : Stretch → Bool) (s : Stretch) (ss : List Stretch)
    → length (filter kind (s ∷ ss)) ≡ length (filter kind (s ∷ [])) + length (filter kind ss)
one_more kind s ss =
    elim (kind s) as (λ b. length (cond b (s ∷ filter kind ss) (filter kind ss))
    ≡ length (cond b (s ∷ []) []) + length (filter kind ss)) [
      | true ↦ omega arith
      | false ↦ omega arith
    ]

put_keeps : (kind : Stretch → Bool) (s : Stretch) (ts : List Stretch)
    → length (filter kind (put_in_order s ts)) ≡ length (filter kind (s ∷ ts))
put_keeps kind s [] = refl
put_keeps kind s (t ∷ ts) =
    elim (nat_le s.address t.address)
    as (λ b. length (filter kind (cond b (s ∷ t ∷ ts) (t ∷ put_in_order s ts))) ≡ length (filter kind (s ∷ t ∷ ts))) [
      | true ↦ refl
      | false ↦ omega (
        arith,
        one_more kind t (put_in_order s ts),
        put_keeps kind s ts,
        one_more kind s ts,
        one_more kind s (t ∷ ts),
        one_more kind t ts,
      )
    ]

pub order_keeps_all : (kind : Stretch → Bool) (ss : List Stretch)
    → length (filter kind (in_order ss)) ≡ length (filter kind ss)
order_keeps_all kind [] = refl
order_keeps_all kind (s ∷ ss) =
    omega (
      arith,
      put_keeps kind s (in_order ss),
      order_keeps_all kind ss,
      one_more kind s (in_order ss),
      one_more kind s ss,
    )
