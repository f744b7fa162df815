-- Stretches in the order of their addresses: those at each address decide the list.
use Rattle.std.proofs.Common.{◌≡◌, ℕ, ◌<◌, ◌≤◌, Bool, true, false, cond, ◌==◌, List, [], ◌∷◌, ◌++◌, filter, refl, sym, ap, ◌∙◌, inl, inr, arith}
use Rattle.std.proofs.lemmas.Bool.{cases_lt, eq-eqb, ne_eqb}
use Rattle.linemap_places_laws.specs.Lines.{Stretch}

-- ---- each of a list

-- it is so of each
abbrev pub Each : {X : Type 0} → (X → Type 0) → List X → Type 0
Each P [] = Unit {0}
Each P (x ∷ xs) = P x × Each P xs

pub each_implies : {X : Type 0} (P Q : X → Type 0) (xs : List X) → ((x : X) → P x → Q x) → Each P xs → Each Q xs
each_implies P Q [] f h = tt
each_implies P Q (x ∷ xs) f h = (f x h.0, each_implies P Q xs f h.1)

pub each_append : {X : Type 0} (P : X → Type 0) (xs ys : List X) → Each P xs → Each P ys → Each P (xs ++ ys)
each_append P [] ys h k = k
each_append P (x ∷ xs) ys h k = (h.0, each_append P xs ys h.1 k)

pub none_pass : {X : Type 0} (p : X → Bool) (xs : List X) → Each (λ x. p x ≡ false) xs → filter p xs ≡ []
none_pass p [] h = refl
none_pass p (x ∷ xs) h = ap (λ b. cond b (x ∷ filter p xs) (filter p xs)) h.0 ∙ none_pass p xs h.1

pub all_pass : {X : Type 0} (p : X → Bool) (xs : List X) → Each (λ x. p x ≡ true) xs → filter p xs ≡ xs
all_pass p [] h = refl
all_pass p (x ∷ xs) h = ap (λ b. cond b (x ∷ filter p xs) (filter p xs)) h.0 ∙ ap (λ l. x ∷ l) (all_pass p xs h.1)

pub same_pass : {X : Type 0} (p q : X → Bool) (xs : List X) → Each (λ x. p x ≡ q x) xs → filter p xs ≡ filter q xs
same_pass p q [] h = refl
same_pass p q (x ∷ xs) h =
    ap (λ b. cond b (x ∷ filter p xs) (filter p xs)) h.0 ∙ ap (λ l. cond (q x) (x ∷ l) l) (same_pass p q xs h.1)

-- ---- stretches that ascend

-- no stretch begins below the one before it, nor the first below low
abbrev pub Climbs : ℕ → List Stretch → Type 0
Climbs low [] = Unit {0}
Climbs low (t ∷ ts) = (low ≤ t.address) × Climbs t.address ts

pub from_lower : (low m : ℕ) (ts : List Stretch) → low ≤ m → Climbs m ts → Climbs low ts
from_lower low m [] le c = tt
from_lower low m (t ∷ ts) le c = (omega (arith, le, c.0), c.1)

-- one list that ascends after another
pub climbs_append : (low m : ℕ) (ts us : List Stretch) → low ≤ m → Climbs low ts → Each (λ t. t.address ≤ m) ts
    → Climbs m us → Climbs low (ts ++ us)
climbs_append low m [] us le c e k = from_lower low m us le k
climbs_append low m (t ∷ ts) us le c e k = (c.0, climbs_append t.address m ts us e.0 c.1 e.1 k)

-- those at one address
abbrev pub stretches_at : ℕ → List Stretch → List Stretch
stretches_at a ts = filter (λ t. t.address == a) ts

pub none_at : (a low : ℕ) (ts : List Stretch) → a < low → Climbs low ts → stretches_at a ts ≡ []
none_at a low [] lt c = refl
none_at a low (t ∷ ts) lt c =
    let above = c.0 in
    ap (λ b. cond b (t ∷ stretches_at a ts) (stretches_at a ts)) (ne_eqb t.address a (omega arith))
    ∙ none_at a t.address ts (omega arith) c.1

-- ---- what decides them

pub first_at : (t : Stretch) (ts : List Stretch) → stretches_at t.address (t ∷ ts) ≡ (t ∷ stretches_at t.address ts)
first_at t ts =
    ap (λ b. cond b (t ∷ stretches_at t.address ts) (stretches_at t.address ts)) (eq-eqb t.address t.address refl)

same_rest : (b : Bool) (x y : Stretch) (xs ys : List Stretch) → cond b (x ∷ xs) xs ≡ cond b (y ∷ ys) ys → xs ≡ ys
same_rest true x y xs ys h = cc
same_rest false x y xs ys h = h

-- where the first of one is below all of the other, it is missing there
not_missing : (x : Stretch) (xs ys : List Stretch) → stretches_at x.address (x ∷ xs) ≡ stretches_at x.address ys
    → stretches_at x.address ys ≡ [] → ⊥
not_missing x xs ys same none =
    let e : (x ∷ stretches_at x.address xs) ≡ [] = sym (first_at x xs) ∙ same ∙ none in absurd cc

-- two lists that ascend, and have the same at each address, are the same
pub alike_are_same : (m n : ℕ) (xs ys : List Stretch) → Climbs m xs → Climbs n ys
    → ((a : ℕ) → stretches_at a xs ≡ stretches_at a ys) → xs ≡ ys
alike_are_same m n [] [] c d same = refl
alike_are_same m n [] (y ∷ ys) c d same = absurd (not_missing y ys [] (sym (same y.address)) refl)
alike_are_same m n (x ∷ xs) [] c d same = absurd (not_missing x xs [] (same x.address) refl)
alike_are_same m n (x ∷ xs) (y ∷ ys) c d same = elim (cases_lt x.address y.address) [
  | inl below ↦ absurd
      (not_missing x xs (y ∷ ys) (same x.address) (none_at x.address y.address (y ∷ ys) below (omega arith, d.1)))
  | inr above ↦ elim (cases_lt y.address x.address) [
    | inl below ↦ absurd
        (not_missing y ys (x ∷ xs) (sym (same y.address))
        (none_at y.address x.address (x ∷ xs) below (omega arith, c.1)))
    | inr level ↦
        let e : y.address ≡ x.address = omega (arith, above, level) in
        let firsts : (x ∷ stretches_at x.address xs) ≡ (y ∷ stretches_at x.address ys) =
        sym (first_at x xs) ∙ same x.address
        ∙ ap (λ b. cond b (y ∷ stretches_at x.address ys) (stretches_at x.address ys))
        (eq-eqb y.address x.address e) in
        let first : x ≡ y = cc in
        let rests : (a : ℕ) → stretches_at a xs ≡ stretches_at a ys = λ a.
        same_rest (x.address == a) x y (stretches_at a xs) (stretches_at a ys)
        (same a ∙ ap (λ n. cond (n == a) (y ∷ stretches_at a ys) (stretches_at a ys)) e) in
        ap (λ t. t ∷ xs) first ∙ ap (λ l. y ∷ l) (alike_are_same x.address y.address xs ys c.1 d.1 rests)
  ]
]
