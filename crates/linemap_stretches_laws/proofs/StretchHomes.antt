-- The ranges of a unit: each of its stretches lies in one of them, and apart from the others.
use Rattle.std.proofs.Common.{◌≡◌, ℕ, ◌+◌, ◌<◌, ◌≤◌, Bool, true, false, cond, ◌==◌, ◌||◌, nat_lt, nat_le, List, [], ◌∷◌, ◌++◌, map, flat_map, append-nil, refl, sym, ap, subst, ◌∙◌, ◌⊎◌, inl, inr, arith}
use Rattle.std.specs.List.{list_any}
use Rattle.std.proofs.lemmas.Bool.{lt-ltb, le-ltb, le-leb, lt-leb, ltb-true, ltb-false, leb-true, leb-false, eqb-true, and_parts, and_from, and_left, and_right, and_cases, or_parts, or_from, or_left, or_right, or_cases, both_ways, not-false, false_from_ne_true}
use Rattle.std.proofs.lemmas.List.Elements.{filter-append}
use Rattle.linemap_places_laws.specs.Range.{Range}
use Rattle.linemap_places_laws.specs.Choice.{holds}
use Rattle.linemap_places_laws.specs.Lines.{Stretch}
use Rattle.linemap_places_laws.specs.TableParts.{RangePart}
use Rattle.linemap_places_laws.specs.Conditions.{overlap, any_overlap, is_within, is_outside, is_empty_range}
use Rattle.linemap_places_laws.specs.LookupAgreement.{lookup_range}
use Rattle.linemap_stretches_laws.proofs.AlikeStretches.{Each, each_implies, none_pass, stretches_at}
use Rattle.linemap_stretches_laws.proofs.StretchBlocks.{Apart, Full, AllApart}
use Rattle.linemap_stretches_laws.proofs.ClippedStretches.{IsInside, IsPlaced}

-- ---- ranges of a table

apart_of : (p q : RangePart) → overlap p q ≡ false → Apart (lookup_range p) (lookup_range q)
apart_of p q none = elim (and_cases (nat_lt p.begin q.end) (nat_lt q.begin p.end) none) [
  | inl e ↦ inr (ltb-false p.begin q.end e)
  | inr e ↦ inl (ltb-false q.begin p.end e)
]

pub all_apart : (rs : List RangePart) → any_overlap rs ≡ false → AllApart (λ r. r) (map lookup_range rs)
all_apart [] none = tt
all_apart (r ∷ rs) none =
    let parts = or_parts (list_any (overlap r) rs) (any_overlap rs) none in (others rs parts.0, all_apart rs parts.1)
  where
    others : (ss : List RangePart) → list_any (overlap r) ss ≡ false
        → Each (λ s. Apart (lookup_range r) s) (map lookup_range ss)
    others [] none = tt
    others (s ∷ ss) none = let parts = or_parts (overlap r s) (list_any (overlap r) ss) none in
        (apart_of r s parts.0, others ss parts.1)

pub all_full : (rs : List RangePart) → list_any is_empty_range rs ≡ false → Each Full (map lookup_range rs)
all_full [] none = tt
all_full (r ∷ rs) none =
    let parts = or_parts (is_empty_range r) (list_any is_empty_range rs) none in (full parts.0, all_full rs parts.1)
  where
    full : is_empty_range r ≡ false → r.begin < r.end
    full h = leb-false r.end r.begin h

each_by_map : {X Y : Type 0} (P : Y → Type 0) (f : X → Y) (xs : List X) → Each P (map f xs) → Each (λ x. P (f x)) xs
each_by_map P f [] all = tt
each_by_map P f (x ∷ xs) all = (all.0, each_by_map P f xs all.1)

-- things are apart where their ranges are
pub apart_by_map : {X : Type 0} (range : X → Range) (xs : List X) → AllApart (λ r. r) (map range xs) → AllApart range xs
apart_by_map range [] apart = tt
apart_by_map range (x ∷ xs) apart =
    (each_by_map (λ s. Apart (range x) s) range xs apart.0, apart_by_map range xs apart.1)

-- ---- the range of a stretch

-- the whole stretch lies in one of the ranges
abbrev pub HasHome : List Range → Stretch → Type 0
HasHome [] t = ⊥
HasHome (r ∷ rs) t = IsInside r t ⊎ HasHome rs t

-- one that isn't empty
abbrev pub IsHoused : List Range → Stretch → Type 0
IsHoused rs t = (0 < t.length) × HasHome rs t

pub home_of : (e : RangePart) (rs : List RangePart) (t : Stretch) → e.begin ≤ t.address → t.address + t.length ≤ e.end
    → is_outside rs e ≡ false → HasHome (map lookup_range rs) t
home_of e rs t from to h = search_home rs (not-false (list_any (is_within e) rs) h)
  where
    inside : (r : RangePart) → is_within e r ≡ true → IsInside (lookup_range r) t
    inside r w =
        let parts = and_parts (nat_le r.begin e.begin) (nat_le e.end r.end) w in
        let low = leb-true r.begin e.begin parts.0 in
        let high = leb-true e.end r.end parts.1 in
        (omega (arith, low, from), omega (arith, high, to))

    search_home : (rs : List RangePart) → list_any (is_within e) rs ≡ true → HasHome (map lookup_range rs) t
    search_home [] found = absurd cc
    search_home (r ∷ rs) found = elim (or_cases (is_within e r) (list_any (is_within e) rs) found) [
      | inl here ↦ inl (inside r here)
      | inr there ↦ inr (search_home rs there)
    ]

-- ---- in one range, apart from the others

apart_from : (r s : Range) (t : Stretch) → Apart r s → IsInside s t
    → (t.address + t.length ≤ r.begin) ⊎ (r.end ≤ t.address)
apart_from r s t (inl before) inside = let from = inside.0 in inr (omega (arith, before, from))
apart_from r s t (inr after) inside = let to = inside.1 in inl (omega (arith, after, to))

apart_turned : (r s : Range) → Apart r s → Apart s r
apart_turned r s (inl before) = inr before
apart_turned r s (inr after) = inl after

others_placed : (s : Range) (rs : List Range) (t : Stretch) → 0 < t.length → IsInside s t → Each (λ r. Apart s r) rs
    → Each (λ r. IsPlaced r t) rs
others_placed s [] t some inside apart = tt
others_placed s (r ∷ rs) t some inside apart =
    ((some, inr (apart_from r s t (apart_turned s r apart.0) inside)), others_placed s rs t some inside apart.1)

home_apart : (r : Range) (rs : List Range) (t : Stretch) → Each (λ s. Apart r s) rs → HasHome rs t
    → (t.address + t.length ≤ r.begin) ⊎ (r.end ≤ t.address)
home_apart r [] t apart home = absurd home
home_apart r (s ∷ rs) t apart (inl inside) = apart_from r s t apart.0 inside
home_apart r (s ∷ rs) t apart (inr later) = home_apart r rs t apart.1 later

each_placed : (rs : List Range) (t : Stretch) → 0 < t.length → AllApart (λ r. r) rs → HasHome rs t
    → Each (λ r. IsPlaced r t) rs
each_placed [] t some apart home = tt
each_placed (r ∷ rs) t some apart (inl inside) = ((some, inl inside), others_placed r rs t some inside apart.0)
each_placed (r ∷ rs) t some apart (inr later) =
    ((some, inr (home_apart r rs t apart.0 later)), each_placed rs t some apart.1 later)

turn_over : {X Y : Type 0} (P : X → Y → Type 0) (xs : List X) (ys : List Y) → Each (λ y. Each (λ x. P x y) xs) ys
    → Each (λ x. Each (P x) ys) xs
turn_over P [] ys all = tt
turn_over P (x ∷ xs) ys all = (
  each_implies (λ y. P x y × Each (λ x. P x y) xs) (P x) ys (λ y h. h.0) all,
  turn_over P xs ys (each_implies (λ y. P x y × Each (λ x. P x y) xs) (λ y. Each (λ x. P x y) xs) ys (λ y h. h.1) all),
)

pub placed_in_each : (rs : List Range) (ts : List Stretch) → AllApart (λ r. r) rs → Each (IsHoused rs) ts
    → Each (λ r. Each (IsPlaced r) ts) rs
placed_in_each rs ts apart housed =
    turn_over IsPlaced rs ts
    (each_implies (IsHoused rs) (λ t. Each (λ r. IsPlaced r t) rs) ts (λ t h. each_placed rs t h.0 apart h.1) housed)

-- ---- what all ranges add

none_holds : (a : ℕ) (r : Range) (rs : List Range) → holds a r ≡ true → Each (λ s. Apart r s) rs
    → list_any (holds a) rs ≡ false
none_holds a r [] held apart = refl
none_holds a r (s ∷ rs) held apart =
    or_from (holds a s) (list_any (holds a) rs) (not_here apart.0) (none_holds a r rs held apart.1)
  where
    not_here : Apart r s → holds a s ≡ false
    not_here apart =
        let parts = and_parts (nat_le r.begin a) (nat_lt a r.end) held in
        let from = leb-true r.begin a parts.0 in
        let to = ltb-true a r.end parts.1 in
        elim apart [
          | inl before ↦ and_left (nat_le s.begin a) (nat_lt a s.end) (lt-leb s.begin a (omega (arith, to, before)))
          | inr after ↦ and_right (nat_le s.begin a) (nat_lt a s.end) (le-ltb a s.end (omega (arith, from, after)))
        ]

pub ranges_add : {X : Type 0} (a : ℕ) (whole : List Stretch) (block : X → List Stretch) (of_range : Range → X)
    (rs : List Range) → AllApart (λ r. r) rs
    → Each (λ r. stretches_at a (block (of_range r)) ≡ cond (holds a r) whole []) rs
    → stretches_at a (flat_map block (map of_range rs)) ≡ cond (list_any (holds a) rs) whole []
ranges_add a whole block of_range [] apart each = refl
ranges_add a whole block of_range (r ∷ rs) apart each =
    filter-append (λ t. t.address == a) (block (of_range r)) (flat_map block (map of_range rs))
    ∙ ap (λ l. l ++ stretches_at a (flat_map block (map of_range rs))) each.0
    ∙ ap (λ l. cond (holds a r) whole [] ++ l) (ranges_add a whole block of_range rs apart.1 each.1)
    ∙ by_case (holds a r) refl
  where
    by_case : (b : Bool) → holds a r ≡ b
        → cond b whole [] ++ cond (list_any (holds a) rs) whole [] ≡ cond (b || list_any (holds a) rs) whole []
    by_case true e = ap (λ c. whole ++ cond c whole []) (none_holds a r rs e apart.0) ∙ append-nil whole
    by_case false e = refl

home_holds : (rs : List Range) (t : Stretch) → 0 < t.length → HasHome rs t → list_any (holds t.address) rs ≡ true
home_holds [] t some home = absurd home
home_holds (r ∷ rs) t some (inl inside) =
    let from = inside.0 in
    let to = inside.1 in
    or_left (holds t.address r) (list_any (holds t.address) rs)
    (and_from _ _ (le-leb r.begin t.address from) (lt-ltb t.address r.end (omega (arith, some, to))))
home_holds (r ∷ rs) t some (inr later) =
    or_right (holds t.address r) (list_any (holds t.address) rs) (home_holds rs t some later)

-- where no range holds the address, nothing is there
pub all_held : (a : ℕ) (rs : List Range) (ts : List Stretch) → Each (IsHoused rs) ts
    → cond (list_any (holds a) rs) (stretches_at a ts) [] ≡ stretches_at a ts
all_held a rs ts housed = by_case (list_any (holds a) rs) refl
  where
    by_case : (b : Bool) → list_any (holds a) rs ≡ b → cond b (stretches_at a ts) [] ≡ stretches_at a ts
    by_case true e = refl
    by_case false e =
        sym (none_pass (λ t. t.address == a) ts (each_implies (IsHoused rs) (λ t. (t.address == a) ≡ false) ts
        (λ t h. false_from_ne_true (t.address == a)
        (λ same. both_ways (list_any (holds a) rs) e
        (subst (λ n. list_any (holds n) rs ≡ true) (eqb-true t.address a same) (home_holds rs t h.0 h.1)))) housed))
