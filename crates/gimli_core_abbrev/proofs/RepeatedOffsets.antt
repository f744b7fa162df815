-- Offsets of a list, and those that occur twice or more.
use Rattle.std.proofs.Common.{◌≡◌, ℕ, ◌+◌, ◌<◌, ◌≤◌, Bool, true, false, cond, ◌||◌, eqb, leb, List, [], ◌∷◌, ◌++◌, length, map, take, get_or, count_by, refl, sym, ap, ◌∙◌, arith}
use Rattle.std.specs.List.{list_any}
use Rattle.std.specs.Ordering.{nat_cmp}
use Rattle.std.specs.BTreeMap.{is_at}
use Rattle.std.proofs.Math.Bool.{or-false, or-true}
use Rattle.std.proofs.lemmas.Bool.{eqb-true, le-leb, lt-leb, leb-true, leb-false}
use Rattle.std.proofs.lemmas.List.{take_more, map-append}
use Rattle.std.proofs.lemmas.List.Folds.{list_any-append}
use Rattle.std.proofs.lemmas.List.Sums.{sum_by-append}
use Rattle.gimli_core_abbrev.proofs.DeclarationPlaces.{place_test}

-- the offset is among these
abbrev pub among : ℕ → List ℕ → Bool
among offset places = list_any (λ (p : ℕ). eqb p offset) places

abbrev pub times_among : ℕ → List ℕ → ℕ
times_among offset places = count_by (λ (p : ℕ). eqb p offset) places

-- ---- one place more

pub places_more : {X : Type 0} (place : X → ℕ) (xs : List X) (i : ℕ) (x : X) → x ≡ get_or xs i x → i < length xs
    → map place (take (i + 1) xs) ≡ map place (take i xs) ++ place x ∷ []
places_more place xs i x item inside =
    ap (map place) (take_more xs i x inside) ∙ map-append place (take i xs) (get_or xs i x ∷ [])
    ∙ ap (λ (p : ℕ). map place (take i xs) ++ p ∷ []) (ap place (sym item))

pub among-push : (offset : ℕ) (places : List ℕ) (c : ℕ)
    → among offset (places ++ c ∷ []) ≡ (among offset places || eqb c offset)
among-push offset places c =
    list_any-append (λ (p : ℕ). eqb p offset) places (c ∷ [])
    ∙ ap (λ (b : Bool). among offset places || b) (or-false (eqb c offset))

times-push : (offset : ℕ) (places : List ℕ) (c : ℕ) → times_among offset (places ++ c ∷ []) ≡ times_among offset places
    + cond (eqb c offset) 1 0
times-push offset places c = sum_by-append (λ (p : ℕ). cond (eqb p offset) 1 0) places (c ∷ []) ∙ omega arith

times-cons : (offset p : ℕ) (places : List ℕ) → times_among offset (p ∷ places) ≡ cond (eqb p offset) 1 0
    + times_among offset places
times-cons offset p places = sum_by-append (λ (q : ℕ). cond (eqb q offset) 1 0) (p ∷ []) places ∙ omega arith

pub among_times : (offset : ℕ) (places : List ℕ) → among offset places ≡ leb 1 (times_among offset places)
among_times offset [] = sym (lt-leb 1 0 (omega arith))
among_times offset (p ∷ places) =
    first (eqb p offset) (among_times offset places) ∙ ap (leb 1) (sym (times-cons offset p places))
  where
    first : (b : Bool) → among offset places ≡ leb 1 (times_among offset places)
        → (b || among offset places) ≡ leb 1 (cond b 1 0 + times_among offset places)
    first true h = sym (le-leb 1 (1 + times_among offset places) (omega arith))
    first false h = h ∙ ap (leb 1) (omega arith)

pub same_among : (offset c : ℕ) (places : List ℕ) → eqb c offset ≡ true → among c places ≡ among offset places
same_among offset c places e = ap (λ (x : ℕ). among x places) (eqb-true c offset e)

-- ---- once

pub distinct_more : (offset c : ℕ) (places : List ℕ) (old new : Bool) → new ≡ cond (is_at (nat_cmp c) offset) true old
    → old ≡ among offset places → new ≡ among offset (places ++ c ∷ [])
distinct_more offset c places old new is was =
    is ∙ rw (place_test c offset) (or_cond (eqb c offset) old was) ∙ sym (among-push offset places c)
  where
    or_cond : (b x : Bool) → x ≡ among offset places → cond b true x ≡ (among offset places || b)
    or_cond true x h = sym (or-true (among offset places))
    or_cond false x h = h ∙ sym (or-false (among offset places))

-- ---- twice

-- a place that wasn't there
pub repeated_new : (offset c : ℕ) (places found : List ℕ) → among c places ≡ false
    → among offset found ≡ leb 2 (times_among offset places)
    → among offset found ≡ leb 2 (times_among offset (places ++ c ∷ []))
repeated_new offset c places found new was =
    was ∙ sym (ap (leb 2) (times-push offset places c) ∙ stays (eqb c offset) refl)
  where
    stays : (b : Bool) → eqb c offset ≡ b → leb 2 (times_among offset places + cond b 1 0)
        ≡ leb 2 (times_among offset places)
    stays true e =
        let none : times_among offset places < 1 = leb-false 1 (times_among offset places)
        (sym (among_times offset places) ∙ sym (same_among offset c places e) ∙ new) in
        lt-leb 2 (times_among offset places + 1) (omega arith)
        ∙ sym (lt-leb 2 (times_among offset places) (omega arith))
    stays false e = ap (leb 2) (omega arith)

-- a place that was there
pub repeated_again : (offset c : ℕ) (places found : List ℕ) → among c places ≡ true
    → among offset found ≡ leb 2 (times_among offset places)
    → among offset (found ++ c ∷ []) ≡ leb 2 (times_among offset (places ++ c ∷ []))
repeated_again offset c places found there was =
    among-push offset found c ∙ sym (ap (leb 2) (times-push offset places c) ∙ by_test (eqb c offset) refl)
  where
    by_test : (b : Bool) → eqb c offset ≡ b → leb 2 (times_among offset places + cond b 1 0) ≡ (among offset found || b)
    by_test true e =
        let some : 1 ≤ times_among offset places = leb-true 1 (times_among offset places)
        (sym (among_times offset places) ∙ sym (same_among offset c places e) ∙ there) in
        le-leb 2 (times_among offset places + 1) (omega arith) ∙ sym (or-true (among offset found))
    by_test false e = ap (leb 2) (omega arith) ∙ sym was ∙ sym (or-false (among offset found))
