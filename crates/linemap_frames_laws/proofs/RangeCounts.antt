-- Ranges counted by the addresses that they hold.
use Rattle.std.proofs.Common.{◌≡◌, ℕ, ◌+◌, ◌<◌, ◌≤◌, Bool, true, false, cond, not, ◌||◌, nat_lt, nat_le, List, [], ◌∷◌, ◌++◌, map, refl, ap, ◌∙◌, inl, inr, arith}
use Rattle.std.specs.List.{list_any, list_all}
use Rattle.std.proofs.lemmas.Bool.{leb-true, leb-false, ltb-true, lt-ltb, le-leb, and_parts, and_from, or_parts, or_left, or_right, both_ways, false_from_ne_true, cases_lt}
use Rattle.linemap_places_laws.specs.LookupLaws.{is_apart, are_apart}
use Rattle.linemap_places_laws.specs.TableParts.{RangePart}
use Rattle.linemap_places_laws.specs.Conditions.{overlap, any_overlap, is_within, is_outside, any_outside, is_empty_range}
use Rattle.linemap_places_laws.specs.Meaning.{holds, any_holds}
use Rattle.linemap_places_laws.proofs.TableRangeHolders.{not_in_rest}
use Rattle.linemap_places_laws.specs.LookupAgreement.{lookup_range}

-- ---- how many ranges hold an address

abbrev pub many : ℕ → List RangePart → ℕ
many b [] = 0
many b (r ∷ rs) = cond (holds b r) 1 0 + many b rs

pub many-append : (b : ℕ) (rs ss : List RangePart) → many b (rs ++ ss) ≡ many b rs + many b ss
many-append b [] ss = omega arith
many-append b (r ∷ rs) ss = let rest = many-append b rs ss in omega arith

pub none_holds : (b : ℕ) (rs : List RangePart) → any_holds b rs ≡ false → many b rs ≡ 0
none_holds b [] h = refl
none_holds b (r ∷ rs) h =
    let p = or_parts (holds b r) (any_holds b rs) h in
    ap (λ c. cond c 1 0 + many b rs) p.0 ∙ ap (λ n. 0 + n) (none_holds b rs p.1)

some_holds : (b : ℕ) (rs : List RangePart) → any_holds b rs ≡ true → 1 ≤ many b rs
some_holds b [] h = absurd cc
some_holds b (r ∷ rs) h = by_case (holds b r) h (some_holds b rs)
  where
    by_case : (c : Bool) → (c || any_holds b rs) ≡ true → (any_holds b rs ≡ true → 1 ≤ many b rs)
        → 1 ≤ cond c 1 0 + many b rs
    by_case true h rest = omega arith
    by_case false h rest = let le = rest h in omega arith

-- where no two overlap
pub at_most_one : (b : ℕ) (rs : List RangePart) → any_overlap rs ≡ false → many b rs ≤ 1
at_most_one b [] h = omega arith
at_most_one b (r ∷ rs) h =
    by_case (holds b r) refl (at_most_one b rs (or_parts (list_any (overlap r) rs) (any_overlap rs) h).1)
  where
    by_case : (c : Bool) → holds b r ≡ c → many b rs ≤ 1 → cond c 1 0 + many b rs ≤ 1
    by_case true e rest = let none = none_holds b rs (not_in_rest b (r ∷ []) rs h (or_left (holds b r) false e)) in
        omega arith
    by_case false e rest = omega arith

-- ---- ranges in others

within_holds : (b : ℕ) (r whole : RangePart) → is_within r whole ≡ true → holds b r ≡ true → holds b whole ≡ true
within_holds b r whole inside held =
    let p = and_parts (nat_le whole.begin r.begin) (nat_le r.end whole.end) inside in
    let q = and_parts (nat_le r.begin b) (nat_lt b r.end) held in
    let p0 = leb-true whole.begin r.begin p.0 in
    let p1 = leb-true r.end whole.end p.1 in
    let q0 = leb-true r.begin b q.0 in
    let q1 = ltb-true b r.end q.1 in
    and_from _ _ (le-leb whole.begin b (omega arith)) (lt-ltb b whole.end (omega arith))

-- what a range in one of them holds, they hold
one_holds : (b : ℕ) (r : RangePart) (parent : List RangePart) → list_any (is_within r) parent ≡ true → holds b r ≡ true
    → any_holds b parent ≡ true
one_holds b r [] inside held = absurd cc
one_holds b r (s ∷ ss) inside held = by_case (is_within r s) refl inside (λ there. one_holds b r ss there held)
  where
    by_case : (c : Bool) → is_within r s ≡ c → (c || list_any (is_within r) ss) ≡ true
        → (list_any (is_within r) ss ≡ true → any_holds b ss ≡ true) → any_holds b (s ∷ ss) ≡ true
    by_case true e inside rest = or_left (holds b s) (any_holds b ss) (within_holds b r s e held)
    by_case false e inside rest = or_right (holds b s) (any_holds b ss) (rest inside)

not_outside : (c : Bool) → not c ≡ false → c ≡ true
not_outside true h = refl
not_outside false h = absurd cc

-- where none is outside others, what one of them holds, those hold
pub others_hold : (b : ℕ) (parent rs : List RangePart) → any_outside parent rs ≡ false → any_holds b rs ≡ true
    → any_holds b parent ≡ true
others_hold b parent [] inside held = absurd cc
others_hold b parent (r ∷ rs) inside held =
    let p = or_parts (is_outside parent r) (any_outside parent rs) inside in
    by_case p.0 (others_hold b parent rs p.1) (holds b r) refl held
  where
    by_case : is_outside parent r ≡ false → (any_holds b rs ≡ true → any_holds b parent ≡ true) → (c : Bool)
        → holds b r ≡ c → (c || any_holds b rs) ≡ true → any_holds b parent ≡ true
    by_case first rest true e held = one_holds b r parent (not_outside (list_any (is_within r) parent) first) e
    by_case first rest false e held = rest held

pub others_hold_none : (b : ℕ) (parent rs : List RangePart) → any_outside parent rs ≡ false → any_holds b parent ≡ false
    → any_holds b rs ≡ false
others_hold_none b parent rs inside none =
    false_from_ne_true (any_holds b rs)
    (λ held. both_ways (any_holds b parent) none (others_hold b parent rs inside held))

-- ranges in others hold an address no more often than those, where no two of them overlap
pub no_more : (b : ℕ) (parent rs : List RangePart) → any_outside parent rs ≡ false → any_overlap rs ≡ false
    → many b rs ≤ many b parent
no_more b parent rs inside apart = by_case (any_holds b rs) refl
  where
    by_case : (c : Bool) → any_holds b rs ≡ c → many b rs ≤ many b parent
    by_case true e = let one = at_most_one b rs apart in
        let some = some_holds b parent (others_hold b parent rs inside e) in omega arith
    by_case false e = let none = none_holds b rs e in omega arith

-- ---- ranges that hold each address at most once are apart

holds_from : (b : ℕ) (r : RangePart) → r.begin ≤ b → b < r.end → holds b r ≡ true
holds_from b r low high = and_from _ _ (le-leb r.begin b low) (lt-ltb b r.end high)

apart_two : (r s : RangePart) → r.begin < r.end → s.begin < s.end → ((b : ℕ) → holds b r ≡ true → holds b s ≡ false)
    → is_apart (lookup_range r) (lookup_range s) ≡ true
apart_two r s some_r some_s once =
    elim (cases_lt s.begin r.end) [
      | inr before ↦ or_left (nat_le r.end s.begin) (nat_le s.end r.begin) (le-leb r.end s.begin before)
      | inl crossing ↦ elim (cases_lt r.begin s.end) [
        | inr after ↦ or_right (nat_le r.end s.begin) (nat_le s.end r.begin) (le-leb s.end r.begin after)
        | inl shared ↦ elim (cases_lt r.begin s.begin) [
          | inl below ↦ absurd
              (both_ways (holds s.begin s) (once s.begin (holds_from s.begin r (omega arith) crossing))
              (holds_from s.begin s (omega arith) some_s))
          | inr above ↦ absurd
              (both_ways (holds r.begin s) (once r.begin (holds_from r.begin r (omega arith) some_r))
              (holds_from r.begin s above shared))
        ]
      ]
    ]

apart_all : (r : RangePart) (ss : List RangePart) → r.begin < r.end → list_any is_empty_range ss ≡ false
    → ((b : ℕ) → holds b r ≡ true → any_holds b ss ≡ false)
    → list_all (is_apart (lookup_range r)) (map lookup_range ss) ≡ true
apart_all r [] some filled once = refl
apart_all r (s ∷ ss) some filled once =
    let p = or_parts (is_empty_range s) (list_any is_empty_range ss) filled in
    and_from _ _
    (apart_two r s some (leb-false s.end s.begin p.0)
    (λ b held. (or_parts (holds b s) (any_holds b ss) (once b held)).0))
    (apart_all r ss some p.1 (λ b held. (or_parts (holds b s) (any_holds b ss) (once b held)).1))

none_left : (b : ℕ) (rs : List RangePart) → many b rs ≡ 0 → any_holds b rs ≡ false
none_left b rs none =
    false_from_ne_true (any_holds b rs) (λ held. let some = some_holds b rs held in absurd (omega arith))

pub apart_by_count : (rs : List RangePart) → list_any is_empty_range rs ≡ false → ((b : ℕ) → many b rs ≤ 1)
    → are_apart (map lookup_range rs) ≡ true
apart_by_count [] filled once = refl
apart_by_count (r ∷ rs) filled once =
    let p = or_parts (is_empty_range r) (list_any is_empty_range rs) filled in
    let some : r.begin < r.end = leb-false r.end r.begin p.0 in
    let others : (b : ℕ) → holds b r ≡ true → any_holds b rs ≡ false = λ b held.
    none_left b rs (let here : cond {A = ℕ} (holds b r) 1 0 ≡ 1 = ap (λ (c : Bool). cond {A = ℕ} c 1 0) held in
    let all = once b in omega (arith, here, all)) in
    and_from _ _ (and_from _ _ (lt-ltb r.begin r.end some) (apart_all r rs some p.1 others))
    (apart_by_count rs p.1 (λ b. let all = once b in omega (arith, all)))
