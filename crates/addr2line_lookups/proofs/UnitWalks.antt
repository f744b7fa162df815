-- Walks over units, one turn after the other.
use Rattle.std.proofs.Common.{◌≡◌, inl, inr, ℕ, zero, suc, ◌+◌, ◌≤◌, List, [], ◌∷◌, length, map, slice_get, Option, Some, None, Result, Ok, Err, refl, sym, ap, ◌∙◌, subst, arith, add-one}
use Rattle.std.proofs.lemmas.Simd.{map-map}
use Rattle.std.proofs.lemmas.List.Elements.{All-cons, All-head, All-tail}
use Rattle.addr2line_unit.specs.Error.{Error}
use Rattle.addr2line_unit.specs.DwarfFiles.{DwarfFile}
use Rattle.addr2line_unit.specs.ResolvedUnits.{ResolvedUnit, AnsweredUnit, value_of_unit, plain_unit}
use Rattle.addr2line_unit.proofs.NewUnits.{unit_of}
use Rattle.addr2line_lookups.specs.AnsweredUnits.{IsOfFile, AreOfFile}
use Rattle.addr2line_lookups.specs.UnitParses.{without_load, ChecksOrNoMemory, after_turn_of, after_turn, check_unit_at, unless_refused, walk_first, walk_all, WalksOrNoMemory}

abbrev pub Walked : Type 0
Walked = Result (Unit {0}) Error × List AnsweredUnit

-- ---- units as they are in their file

-- a turn changes nothing but the answers
same_units_after : (vs : List AnsweredUnit) (n : ℕ) → map unit_of (after_turn vs n) ≡ map unit_of vs
same_units_after [] n = refl
same_units_after (v ∷ vs) zero = refl
same_units_after (v ∷ vs) (suc n) = by (slice_get vs n) (same_units_after vs n)
  where
    by : (o : Option AnsweredUnit) → map unit_of (after_turn_of vs n o) ≡ map unit_of vs
        → map unit_of (after_turn_of (v ∷ vs) (suc n) o) ≡ map unit_of (v ∷ vs)
    by None h = refl
    by (Some w) h = ap (λ l. v.unit ∷ l) h

-- the units themselves
pub plain_after_turn : (us vs : List ResolvedUnit) (n : ℕ)
    → map value_of_unit vs ≡ after_turn (map value_of_unit us) n → map plain_unit vs ≡ map plain_unit us
plain_after_turn us vs n is =
    sym (map-map unit_of value_of_unit vs) ∙ ap (map unit_of) is ∙ same_units_after (map value_of_unit us) n
    ∙ map-map unit_of value_of_unit us

module _ (check : AnsweredUnit → Result (Unit {0}) Error) where
  turn_later : (w : AnsweredUnit) (xs : List AnsweredUnit) (n : ℕ) (o : Option AnsweredUnit)
      → after_turn_of (w ∷ xs) (suc n) o ≡ w ∷ after_turn_of xs n o
  turn_later w xs n None = refl
  turn_later w xs n (Some v) = refl

  abbrev turn_and_check : List AnsweredUnit → ℕ → Walked
  turn_and_check xs n = (check_unit_at check xs n, xs)

  -- one unit more
  one_more : (n : ℕ) (vs : List AnsweredUnit) → (walk_first check n vs).0 ≡ Ok tt
      → walk_first check (suc n) vs ≡ turn_and_check (after_turn (walk_first check n vs).1 n) n
  one_more zero [] h = refl
  one_more zero (v ∷ vs) h = by (check (without_load v))
    where
      by : (r : Result (Unit {0}) Error)
          → unless_refused r (without_load v) vs (Ok tt, vs) ≡ (r, without_load v ∷ vs)
      by (Ok x) = refl
      by (Err e) = refl
  one_more (suc n) [] h = refl
  one_more (suc n) (v ∷ vs) h = by (check (without_load v)) (one_more n vs) h
    where
      by : (r : Result (Unit {0}) Error)
          → ((walk_first check n vs).0 ≡ Ok tt
          → walk_first check (suc n) vs ≡ turn_and_check (after_turn (walk_first check n vs).1 n) n)
          → (unless_refused r (without_load v) vs (walk_first check n vs)).0 ≡ Ok tt
          → unless_refused r (without_load v) vs (walk_first check (suc n) vs)
          ≡ turn_and_check (after_turn (unless_refused r (without_load v) vs (walk_first check n vs)).1 (suc n)) (suc n)
      by (Ok x) later h =
          let left : List AnsweredUnit = (walk_first check n vs).1 in
          ap (λ (r : Walked). unless_refused (Ok x) (without_load v) vs r) (later h)
          ∙ ap (λ l. turn_and_check l (suc n)) (sym (turn_later (without_load v) left n (slice_get left n)))
      by (Err e) later h = absurd cc

  -- a refusal ends the walk
  refused : (n : ℕ) (vs : List AnsweredUnit) (e : Error) → (walk_first check n vs).0 ≡ Err e
      → walk_all check vs ≡ walk_first check n vs
  refused zero vs e h = absurd cc
  refused (suc n) [] e h = absurd cc
  refused (suc n) (v ∷ vs) e h = by (check (without_load v)) (refused n vs e) h
    where
      by : (r : Result (Unit {0}) Error)
          → ((walk_first check n vs).0 ≡ Err e → walk_all check vs ≡ walk_first check n vs)
          → (unless_refused r (without_load v) vs (walk_first check n vs)).0 ≡ Err e
          → unless_refused r (without_load v) vs (walk_all check vs)
          ≡ unless_refused r (without_load v) vs (walk_first check n vs)
      by (Ok x) later h = ap (λ (r : Walked). unless_refused (Ok x) (without_load v) vs r) (later h)
      by (Err d) later h = refl

  -- after the last unit
  all_walked : (n : ℕ) (vs : List AnsweredUnit) → length (walk_first check n vs).1 ≤ n
      → (walk_first check n vs).0 ≡ Ok tt → walk_all check vs ≡ walk_first check n vs
  all_walked zero [] past h = refl
  all_walked zero (v ∷ vs) past h = absurd (omega (arith, past))
  all_walked (suc n) [] past h = refl
  all_walked (suc n) (v ∷ vs) past h = by (check (without_load v)) (all_walked n vs) past h
    where
      by : (r : Result (Unit {0}) Error)
          → (length (walk_first check n vs).1 ≤ n → (walk_first check n vs).0 ≡ Ok tt
          → walk_all check vs ≡ walk_first check n vs)
          → length (unless_refused r (without_load v) vs (walk_first check n vs)).1 ≤ suc n
          → (unless_refused r (without_load v) vs (walk_first check n vs)).0 ≡ Ok tt
          → unless_refused r (without_load v) vs (walk_all check vs)
          ≡ unless_refused r (without_load v) vs (walk_first check n vs)
      by (Ok x) later past h =
          ap (λ (r : Walked). unless_refused (Ok x) (without_load v) vs r) (later (omega (arith, past)) h)
      by (Err e) later past h = absurd cc

  -- ---- a walk by its turns

  -- the units before a number can be read, and these are left
  abbrev pub HasWalked : ℕ → List AnsweredUnit → List AnsweredUnit → Type 0
  HasWalked n old now = walk_first check n old ≡ (Ok tt, now)

  module _ (n : ℕ) (old now : List AnsweredUnit) (before : HasWalked n old now) where
    after_one : (new : List AnsweredUnit) → new ≡ after_turn now n
        → walk_first check (n + 1) old ≡ turn_and_check new n
    after_one new is =
        ap (λ m. walk_first check m old) (add-one n)
        ∙ one_more n old (ap (λ (r : Walked). r.0) before)
        ∙ ap (λ (r : Walked). turn_and_check (after_turn r.1 n) n) before
        ∙ ap (λ l. turn_and_check l n) (sym is)

    pub walk_goes_on : (new : List AnsweredUnit) → new ≡ after_turn now n
        → ChecksOrNoMemory (Ok tt) (check_unit_at check new n) → HasWalked (n + 1) old new
    walk_goes_on new is (inl passes) = after_one new is ∙ ap (λ r. (r, new)) passes
    walk_goes_on new is (inr none) = absurd cc

    pub walk_stops : (new : List AnsweredUnit) (e : Error) → new ≡ after_turn now n
        → ChecksOrNoMemory (Err e) (check_unit_at check new n) → WalksOrNoMemory check (Err e) old new
    walk_stops new e is (inl refuses) =
        let there : walk_first check (n + 1) old ≡ (Err e, new) =
        after_one new is ∙ ap (λ r. (r, new)) refuses in
        inl (refused (n + 1) old e (ap (λ (r : Walked). r.0) there) ∙ there)
    walk_stops new e is (inr none) =
        inr (none, (n + 1, sym (ap (λ (r : Walked). r.1) (after_one new is))))

    -- the same of a call's result
    pub walk_refused : (new : List AnsweredUnit) (e : Error) (r : Result (Unit {0}) Error) (f : Error) → r ≡ Err f
        → f ≡ e → new ≡ after_turn now n → ChecksOrNoMemory (Err e) (check_unit_at check new n)
        → WalksOrNoMemory check r old new
    walk_refused new e r f is same turn h =
        subst (λ x. WalksOrNoMemory check x old new) (sym (is ∙ ap Err same)) (walk_stops new e turn h)

    pub walk_ends : length now ≤ n → WalksOrNoMemory check (Ok tt) old now
    walk_ends past =
        inl (all_walked n old (subst (λ l. length l ≤ n) (sym (ap (λ (r : Walked). r.1) before)) past)
        (ap (λ (r : Walked). r.0) before) ∙ before)

  -- ---- what a walk leaves

  pub same_units_walked : (n : ℕ) (vs : List AnsweredUnit)
      → map unit_of (walk_first check n vs).1 ≡ map unit_of vs
  same_units_walked zero vs = refl
  same_units_walked (suc n) [] = refl
  same_units_walked (suc n) (v ∷ vs) = by (check (without_load v)) (same_units_walked n vs)
    where
      by : (r : Result (Unit {0}) Error) → map unit_of (walk_first check n vs).1 ≡ map unit_of vs
          → map unit_of (unless_refused r (without_load v) vs (walk_first check n vs)).1 ≡ map unit_of (v ∷ vs)
      by (Ok x) later = ap (λ l. v.unit ∷ l) later
      by (Err e) later = refl

  pub same_file_walked : (file : DwarfFile) (n : ℕ) (vs : List AnsweredUnit) → AreOfFile file vs
      → AreOfFile file (walk_first check n vs).1
  same_file_walked file zero vs h = h
  same_file_walked file (suc n) [] h = h
  same_file_walked file (suc n) (v ∷ vs) h =
      by (check (without_load v)) (same_file_walked file n vs (All-tail (IsOfFile file) v vs h))
    where
      by : (r : Result (Unit {0}) Error) → AreOfFile file (walk_first check n vs).1
          → AreOfFile file (unless_refused r (without_load v) vs (walk_first check n vs)).1
      by (Ok x) later =
          All-cons (IsOfFile file) (without_load v) (walk_first check n vs).1 (All-head (IsOfFile file) v vs h) later
      by (Err e) later =
          All-cons (IsOfFile file) (without_load v) vs (All-head (IsOfFile file) v vs h)
          (All-tail (IsOfFile file) v vs h)

  module _ (result : Result (Unit {0}) Error) (old new : List AnsweredUnit)
      (h : WalksOrNoMemory check result old new) where
    -- it is what a walk over some first units leaves
    pub walked : (n : ℕ) × (new ≡ (walk_first check n old).1)
    walked = by h
      where
        by : WalksOrNoMemory check result old new → (n : ℕ) × (new ≡ (walk_first check n old).1)
        by (inl all) = (length old, sym (ap (λ (r : Walked). r.1) all))
        by (inr none) = none.1

    pub same_units_left : map unit_of new ≡ map unit_of old
    same_units_left = ap (map unit_of) walked.1 ∙ same_units_walked walked.0 old

    pub same_file_left : (file : DwarfFile) → AreOfFile file old → AreOfFile file new
    same_file_left file before =
        subst (AreOfFile file) (sym walked.1) (same_file_walked file walked.0 old before)

  -- the units themselves stay the same
  pub plain_walked : (result : Result (Unit {0}) Error) (us vs : List ResolvedUnit)
      → WalksOrNoMemory check result (map value_of_unit us) (map value_of_unit vs)
      → map plain_unit vs ≡ map plain_unit us
  plain_walked result us vs h =
      sym (map-map unit_of value_of_unit vs)
      ∙ same_units_left result (map value_of_unit us) (map value_of_unit vs) h
      ∙ map-map unit_of value_of_unit us

  -- in the middle of a walk too
  pub plain_so_far : (n : ℕ) (us vs : List ResolvedUnit)
      → HasWalked n (map value_of_unit us) (map value_of_unit vs) → map plain_unit vs ≡ map plain_unit us
  plain_so_far n us vs h =
      sym (map-map unit_of value_of_unit vs) ∙ sym (ap (λ (r : Walked). map unit_of r.1) h)
      ∙ same_units_walked n (map value_of_unit us) ∙ map-map unit_of value_of_unit us
