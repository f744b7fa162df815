-- Blocks of stretches, each in a range of its own: put in the order of the ranges they ascend.
use Rattle.std.proofs.Common.{◌≡◌, ℕ, ◌<◌, ◌≤◌, Bool, true, false, cond, ◌==◌, List, [], ◌∷◌, ◌++◌, flat_map, refl, sym, ap, ◌∙◌, ◌⊎◌, inl, inr, arith}
use Rattle.std.proofs.lemmas.Bool.{cases_lt, ne_eqb}
use Rattle.std.proofs.lemmas.List.Elements.{filter-append}
use Rattle.linemap_places_laws.specs.Range.{Range}
use Rattle.linemap_places_laws.specs.Lines.{Stretch}
use Rattle.linemap_places_laws.specs.Orders.{put_in_order, in_order}
use Rattle.linemap_stretches_laws.proofs.AlikeStretches.{Each, Climbs, climbs_append, stretches_at}

-- ---- ranges

-- one ends where the other begins, or before
abbrev pub Apart : Range → Range → Type 0
Apart r s = (r.end ≤ s.begin) ⊎ (s.end ≤ r.begin)

-- it has an address
abbrev pub Full : Range → Type 0
Full r = r.begin < r.end

-- the stretch begins in the range
abbrev pub BeginsIn : Range → Stretch → Type 0
BeginsIn r t = (r.begin ≤ t.address) × (t.address < r.end)

-- the order goes by the ranges
abbrev pub GoesBy : {X : Type 0} → (X → Range) → (X → X → Bool) → Type 0
GoesBy {X} range is_after =
    (x y : X) → Apart (range x) (range y) → Full (range x) → Full (range y)
    → (is_after x y ≡ true → (range y).end ≤ (range x).begin)
    × (is_after x y ≡ false → (range x).end ≤ (range y).begin)

-- no two ranges share an address
abbrev pub AllApart : {X : Type 0} → (X → Range) → List X → Type 0
AllApart range [] = Unit {0}
AllApart range (x ∷ xs) = Each (λ y. Apart (range x) (range y)) xs × AllApart range xs

-- each stretch of the block begins in its range, and they ascend
abbrev pub IsBlock : {X : Type 0} → (X → Range) → (X → List Stretch) → X → Type 0
IsBlock range block x = Full (range x) × Each (BeginsIn (range x)) (block x) × Climbs 0 (block x)

-- ---- lists put in order

module _ {X : Type 0} (is_after : X → X → Bool) (P : X → Type 0) where
  put_each : (x : X) (ys : List X) → P x → Each P ys → Each P (put_in_order is_after x ys)
  put_each x [] p all = (p, tt)
  put_each x (y ∷ ys) p all =
      elim (is_after x y) as (λ b. Each P (cond b (y ∷ put_in_order is_after x ys) (x ∷ y ∷ ys))) [
        | true ↦ (all.0, put_each x ys p all.1)
        | false ↦ (p, all)
      ]

  pub in_order_each : (xs : List X) → Each P xs → Each P (in_order is_after xs)
  in_order_each [] all = tt
  in_order_each (x ∷ xs) all = put_each x (in_order is_after xs) all.0 (in_order_each xs all.1)

module _ {X : Type 0} (range : X → Range) (is_after : X → X → Bool) (block : X → List Stretch) where
  -- each range begins where the one before it ends, or above
  abbrev Follow : ℕ → List X → Type 0
  Follow low [] = Unit {0}
  Follow low (x ∷ xs) = (low ≤ (range x).begin) × Follow (range x).end xs

  abbrev IsFull : X → Type 0
  IsFull x = Full (range x)

  put_follows : GoesBy range is_after → (low : ℕ) (x : X) (ys : List X) → low ≤ (range x).begin → IsFull x
      → Each IsFull ys → Each (λ y. Apart (range x) (range y)) ys → Follow low ys
      → Follow low (put_in_order is_after x ys)
  put_follows by low x [] le full all apart follow = (le, tt)
  put_follows by low x (y ∷ ys) le full all apart follow =
      let sides = by x y apart.0 full all.0 in
      elim (is_after x y) as (λ b. is_after x y ≡ b
      → Follow low (cond b (y ∷ put_in_order is_after x ys) (x ∷ y ∷ ys))) [
        | true ↦ λ e. (follow.0, put_follows by (range y).end x ys (sides.0 e) full all.1 apart.1 follow.1)
        | false ↦ λ e. (le, (sides.1 e, follow.1))
      ] refl

  order_follows : GoesBy range is_after → (xs : List X) → AllApart range xs → Each IsFull xs
      → Follow 0 (in_order is_after xs)
  order_follows by [] apart full = tt
  order_follows by (x ∷ xs) apart full =
      put_follows by 0 x (in_order is_after xs) (omega arith) full.0 (in_order_each is_after IsFull xs full.1)
      (in_order_each is_after (λ y. Apart (range x) (range y)) xs apart.0) (order_follows by xs apart.1 full.1)

  -- ---- blocks one after the other ascend

  climbs_above : (low : ℕ) (r : Range) (ts : List Stretch) → low ≤ r.begin → Each (BeginsIn r) ts → Climbs 0 ts
      → Climbs low ts
  climbs_above low r [] le in_range climbs = tt
  climbs_above low r (t ∷ ts) le in_range climbs = let b = in_range.0.0 in (omega arith, climbs.1)

  below_end : (r : Range) (ts : List Stretch) → Each (BeginsIn r) ts → Each (λ t. t.address ≤ r.end) ts
  below_end r [] in_range = tt
  below_end r (t ∷ ts) in_range = let b = in_range.0.1 in (omega arith, below_end r ts in_range.1)

  follow_climbs : (low : ℕ) (xs : List X) → Follow low xs → Each (IsBlock range block) xs
      → Climbs low (flat_map block xs)
  follow_climbs low [] follow good = tt
  follow_climbs low (x ∷ xs) follow good =
      let le = follow.0 in
      let full = good.0.0 in
      climbs_append low (range x).end (block x) (flat_map block xs) (omega arith)
      (climbs_above low (range x) (block x) le good.0.1 good.0.2) (below_end (range x) (block x) good.0.1)
      (follow_climbs (range x).end xs follow.1 good.1)

  all_full : (xs : List X) → Each (IsBlock range block) xs → Each IsFull xs
  all_full [] good = tt
  all_full (x ∷ xs) good = (good.0.0, all_full xs good.1)

  pub blocks_climb : GoesBy range is_after → (xs : List X) → AllApart range xs → Each (IsBlock range block) xs
      → Climbs 0 (flat_map block (in_order is_after xs))
  blocks_climb by xs apart good =
      follow_climbs 0 (in_order is_after xs) (order_follows by xs apart (all_full xs good))
      (in_order_each is_after (IsBlock range block) xs good)

  -- ---- at one address

  -- where the address is outside of the range
  outside : (a : ℕ) (r : Range) (ts : List Stretch) → (a < r.begin) ⊎ (r.end ≤ a) → Each (BeginsIn r) ts
      → stretches_at a ts ≡ []
  outside a r [] out in_range = refl
  outside a r (t ∷ ts) out in_range =
      let low = in_range.0.0 in
      let high = in_range.0.1 in
      let other : t.address ≡ a → ⊥ = λ e. elim out [
        | inl below ↦ absurd (omega (arith, e))
        | inr above ↦ absurd (omega (arith, e))
      ] in
      ap (λ b. cond b (t ∷ stretches_at a ts) (stretches_at a ts)) (ne_eqb t.address a other)
      ∙ outside a r ts out in_range.1

  one_is_empty : (a : ℕ) (r s : Range) (ts us : List Stretch) → Apart r s → Each (BeginsIn r) ts → Each (BeginsIn s) us
      → (stretches_at a ts ≡ []) ⊎ (stretches_at a us ≡ [])
  one_is_empty a r s ts us (inl before) t_in u_in = elim (cases_lt a r.end) [
    | inl low ↦ inr (outside a s us (inl (omega arith)) u_in)
    | inr high ↦ inl (outside a r ts (inr high) t_in)
  ]
  one_is_empty a r s ts us (inr after) t_in u_in = elim (cases_lt a s.end) [
    | inl low ↦ inl (outside a r ts (inl (omega arith)) t_in)
    | inr high ↦ inr (outside a s us (inr high) u_in)
  ]

  swap_blocks : (ts us vs : List Stretch) → (ts ≡ []) ⊎ (us ≡ []) → us ++ (ts ++ vs) ≡ ts ++ (us ++ vs)
  swap_blocks ts us vs (inl none) = ap (λ l. us ++ (l ++ vs)) none ∙ ap (λ l. l ++ (us ++ vs)) (sym none)
  swap_blocks ts us vs (inr none) = ap (λ l. l ++ (ts ++ vs)) none ∙ ap (λ l. ts ++ (l ++ vs)) (sym none)

  at_first : (a : ℕ) (x : X) (xs : List X)
      → stretches_at a (flat_map block (x ∷ xs)) ≡ stretches_at a (block x) ++ stretches_at a (flat_map block xs)
  at_first a x xs = filter-append (λ t. t.address == a) (block x) (flat_map block xs)

  put_alike : (a : ℕ) (x : X) (ys : List X) → Each (λ y. Apart (range x) (range y)) ys → IsBlock range block x
      → Each (IsBlock range block) ys
      → stretches_at a (flat_map block (put_in_order is_after x ys))
      ≡ stretches_at a (block x) ++ stretches_at a (flat_map block ys)
  put_alike a x [] apart good all = at_first a x []
  put_alike a x (y ∷ ys) apart good all =
      elim (is_after x y)
      as (λ b. stretches_at a (flat_map block (cond b (y ∷ put_in_order is_after x ys) (x ∷ y ∷ ys)))
      ≡ stretches_at a (block x) ++ stretches_at a (flat_map block (y ∷ ys))) [
        | true ↦
            at_first a y (put_in_order is_after x ys)
            ∙ ap (λ l. stretches_at a (block y) ++ l) (put_alike a x ys apart.1 good all.1)
            ∙ swap_blocks (stretches_at a (block x)) (stretches_at a (block y)) (stretches_at a (flat_map block ys))
            (one_is_empty a (range x) (range y) (block x) (block y) apart.0 good.1 all.0.1)
            ∙ ap (λ l. stretches_at a (block x) ++ l) (sym (at_first a y ys))
        | false ↦ at_first a x (y ∷ ys)
      ]

  -- put in order, they have the same at each address
  pub blocks_alike : (a : ℕ) (xs : List X) → AllApart range xs → Each (IsBlock range block) xs
      → stretches_at a (flat_map block (in_order is_after xs)) ≡ stretches_at a (flat_map block xs)
  blocks_alike a [] apart good = refl
  blocks_alike a (x ∷ xs) apart good =
      put_alike a x (in_order is_after xs) (in_order_each is_after (λ y. Apart (range x) (range y)) xs apart.0) good.0
      (in_order_each is_after (IsBlock range block) xs good.1)
      ∙ ap (λ l. stretches_at a (block x) ++ l) (blocks_alike a xs apart.1 good.1) ∙ sym (at_first a x xs)
