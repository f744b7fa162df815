-- Loads that are pending: which of them a lookup waits for, and what an answer to one leaves of them.
use Rattle.std.proofs.Common.{◌≡◌, ◌≢◌, ℕ, zero, suc, ◌<◌, ◌==◌, Bool, true, false, not, cond, List, [], ◌∷◌, length, map, filter, set, slice_get, Option, Some, None, option_and_then, Result, Ok, Err, refl, sym, ap, ◌∙◌, arith}
use Rattle.std.specs.List.{filter_map, cons_option}
use Rattle.std.proofs.lemmas.Bool.{eqb-true, eqb-false}
use Rattle.gimli_lines_machine.specs.Error.{Error}
use Rattle.addr2line_spec.specs.FirstAnswers.{SplitLoad, FirstAnswer, FirstAnswers, PendingLoad, Lookup, output, pending, recorded_answer, decision}
use Rattle.addr2line_spec.specs.Lookups.{map_output, first_output, load_in, other_than, one_each}
use Rattle.addr2line_spec.specs.SuspensionLaws.{IsFirstOf}

-- ---- lists

module _ {A : Type 0} where
  pub get_after_set : (xs : List A) (i : ℕ) (x : A) → i < length xs → slice_get (set xs i x) i ≡ Some x
  get_after_set [] i x h = absurd (omega arith)
  get_after_set (y ∷ ys) zero x h = refl
  get_after_set (y ∷ ys) (suc i) x h = get_after_set ys i x (omega arith)

  pub get_beside_set : (xs : List A) (i j : ℕ) (x : A) → j ≢ i → slice_get (set xs i x) j ≡ slice_get xs j
  get_beside_set [] i j x h = refl
  get_beside_set (y ∷ ys) zero zero x h = absurd (h refl)
  get_beside_set (y ∷ ys) zero (suc j) x h = refl
  get_beside_set (y ∷ ys) (suc i) zero x h = refl
  get_beside_set (y ∷ ys) (suc i) (suc j) x h = get_beside_set ys i j x (λ e. h (ap suc e))

module _ {A : Type 0} (p q : A → Bool) where
  abbrev if_passes : Bool → A → List A → List A
  if_passes b x xs = cond b (x ∷ xs) xs

  -- two filters, one after the other
  pub filter_swap : (xs : List A) → filter p (filter q xs) ≡ filter q (filter p xs)
  filter_swap [] = refl
  filter_swap (x ∷ xs) = by (p x) (q x) refl refl (filter_swap xs)
    where
      by : (b c : Bool) → p x ≡ b → q x ≡ c → filter p (filter q xs) ≡ filter q (filter p xs)
          → filter p (filter q (x ∷ xs)) ≡ filter q (filter p (x ∷ xs))
      by true true hp hq h =
          ap (λ k. filter p (if_passes k x (filter q xs))) hq ∙ ap (λ k. if_passes k x (filter p (filter q xs))) hp
          ∙ ap (λ l. x ∷ l) h
          ∙ sym (ap (λ k. filter q (if_passes k x (filter p xs))) hp
          ∙ ap (λ k. if_passes k x (filter q (filter p xs))) hq)
      by true false hp hq h =
          ap (λ k. filter p (if_passes k x (filter q xs))) hq ∙ h
          ∙ sym (ap (λ k. filter q (if_passes k x (filter p xs))) hp
          ∙ ap (λ k. if_passes k x (filter q (filter p xs))) hq)
      by false true hp hq h =
          ap (λ k. filter p (if_passes k x (filter q xs))) hq ∙ ap (λ k. if_passes k x (filter p (filter q xs))) hp ∙ h
          ∙ sym (ap (λ k. filter q (if_passes k x (filter p xs))) hp)
      by false false hp hq h =
          ap (λ k. filter p (if_passes k x (filter q xs))) hq ∙ h
          ∙ sym (ap (λ k. filter q (if_passes k x (filter p xs))) hp)

module _ {A : Type 0} (p : A → Bool) where
  pub filter_twice : (xs : List A) → filter p (filter p xs) ≡ filter p xs
  filter_twice [] = refl
  filter_twice (x ∷ xs) = by (p x) refl (filter_twice xs)
    where
      by : (b : Bool) → p x ≡ b → filter p (filter p xs) ≡ filter p xs
          → filter p (filter p (x ∷ xs)) ≡ filter p (x ∷ xs)
      by true hp h =
          ap (λ k. filter p (cond k (x ∷ filter p xs) (filter p xs))) hp
          ∙ ap (λ k. cond k (x ∷ filter p (filter p xs)) (filter p (filter p xs))) hp
          ∙ ap (λ l. x ∷ l) h ∙ sym (ap (λ k. cond k (x ∷ filter p xs) (filter p xs)) hp)
      by false hp h =
          ap (λ k. filter p (cond k (x ∷ filter p xs) (filter p xs))) hp ∙ h
          ∙ sym (ap (λ k. cond k (x ∷ filter p xs) (filter p xs)) hp)

-- ---- the load that a lookup waits for

module _ {X : Type 0} (decide : X → Lookup FirstAnswer) where
  abbrev pub lookups_of : {A : Type 0} → (X → FirstAnswer → A) → List X → List (Lookup A)
  lookups_of ask xs = map (λ x. map_output (ask x) (decide x)) xs

  module _ {A B : Type 0} (is_something : A → Bool) (nothing : A) (ask : X → FirstAnswer → A)
      (other : X → FirstAnswer → B) (p : PendingLoad) where
    abbrev first_of_loads : List (Lookup B) → Type 0
    first_of_loads ls = (rest : List PendingLoad) × (filter_map load_in ls ≡ p ∷ rest)

    pub waits_for_first : (xs : List X) → first_output is_something nothing (lookups_of ask xs) ≡ pending p
        → first_of_loads (lookups_of other xs)
    waits_for_first [] h = absurd cc
    waits_for_first (x ∷ xs) h = by (decide x) h (waits_for_first xs)
      where
        by : (d : Lookup FirstAnswer)
            → first_output is_something nothing (map_output (ask x) d ∷ lookups_of ask xs) ≡ pending p
            → (first_output is_something nothing (lookups_of ask xs) ≡ pending p → first_of_loads (lookups_of other xs))
            → first_of_loads (map_output (other x) d ∷ lookups_of other xs)
        by (pending q) h later =
            let same : q ≡ p = cc in
            (filter_map load_in (lookups_of other xs), ap (λ l. l ∷ filter_map load_in (lookups_of other xs)) same)
        by (output first) h later = by_test (is_something (ask x first)) h
          where
            by_test : (b : Bool)
                → cond b (output (ask x first)) (first_output is_something nothing (lookups_of ask xs)) ≡ pending p
                → first_of_loads (lookups_of other xs)
            by_test true h = absurd cc
            by_test false h = later h

-- of several loads the first is the first of its unit
pub first_of_each : (ps : List PendingLoad) (p : PendingLoad) → IsFirstOf ps p → IsFirstOf (one_each ps) p
first_of_each ps p h = (filter (other_than p.number) (one_each h.0), ap one_each h.1)

-- ---- an answer to one of them

-- the load of a lookup, if it is pending, before others
abbrev with_load : Lookup FirstAnswer → List PendingLoad → List PendingLoad
with_load l ps = cons_option (load_in (map_output (λ (first : FirstAnswer). first) l)) ps

-- what the answers before it and after it leave of the load of one unit, and of those of other units
module _ (number : ℕ) (ps later : List PendingLoad) (h : later ≡ filter (other_than number) ps) where
  abbrev takes : Lookup FirstAnswer → Lookup FirstAnswer → Type 0
  takes new old = with_load new later ≡ filter (other_than number) (with_load old ps)

  abbrev if_other : Bool → PendingLoad → List PendingLoad
  if_other b p = cond (not b) (p ∷ filter (other_than number) ps) (filter (other_than number) ps)

  takes_load : (load : Result (Option SplitLoad) Error) (r : Option FirstAnswer) (first : FirstAnswer) (m : ℕ)
      → (m == number) ≡ true → takes (decision m load (Some first)) (decision m load r)
  takes_load (Ok None) r first m is = h
  takes_load (Err e) r first m is = h
  takes_load (Ok (Some l)) (Some x) first m is = h
  takes_load (Ok (Some l)) None first m is = h ∙ sym (ap (λ b. if_other b (record { number = m; load = l })) is)

  stays : (load : Result (Option SplitLoad) Error) (r : Option FirstAnswer) (m : ℕ) → (m == number) ≡ false
      → takes (decision m load r) (decision m load r)
  stays (Ok None) r m is = h
  stays (Err e) r m is = h
  stays (Ok (Some l)) (Some x) m is = h
  stays (Ok (Some l)) None m is =
      ap (λ qs. record { number = m; load = l } ∷ qs) h
      ∙ sym (ap (λ b. if_other b (record { number = m; load = l })) is)

module _ {X : Type 0} (number_of : X → ℕ) (load : X → Result (Option SplitLoad) Error) (answers : FirstAnswers)
    (number : ℕ) (first : FirstAnswer) (within : number < length answers) where
  abbrev pub pending_under : FirstAnswers → List X → List PendingLoad
  pending_under recorded xs =
      filter_map load_in (lookups_of (λ x. decision (number_of x) (load x) (recorded_answer recorded (number_of x)))
      (λ x (answer : FirstAnswer). answer) xs)

  abbrev after : FirstAnswers
  after = set answers number (Some first)

  answer_there : (m : ℕ) → (m == number) ≡ true → recorded_answer after m ≡ Some first
  answer_there m is =
      ap (recorded_answer after) (eqb-true m number is)
      ∙ ap (option_and_then (λ (x : Option FirstAnswer). x)) (get_after_set answers number (Some first) within)

  answer_elsewhere : (m : ℕ) → (m == number) ≡ false → recorded_answer after m ≡ recorded_answer answers m
  answer_elsewhere m is =
      ap (option_and_then (λ (x : Option FirstAnswer). x))
      (get_beside_set answers number m (Some first) (eqb-false m number is))

  pub takes_one : (xs : List X) → pending_under after xs ≡ filter (other_than number) (pending_under answers xs)
  takes_one [] = refl
  takes_one (x ∷ xs) = by (number_of x == number) refl (takes_one xs)
    where
      by : (b : Bool) → (number_of x == number) ≡ b
          → pending_under after xs ≡ filter (other_than number) (pending_under answers xs)
          → pending_under after (x ∷ xs) ≡ filter (other_than number) (pending_under answers (x ∷ xs))
      by true is h =
          ap (λ r. with_load (decision (number_of x) (load x) r) (pending_under after xs))
          (answer_there (number_of x) is)
          ∙ takes_load number (pending_under answers xs) (pending_under after xs) h (load x)
          (recorded_answer answers (number_of x)) first (number_of x) is
      by false is h =
          ap (λ r. with_load (decision (number_of x) (load x) r) (pending_under after xs))
          (answer_elsewhere (number_of x) is)
          ∙ stays number (pending_under answers xs) (pending_under after xs) h (load x)
          (recorded_answer answers (number_of x)) (number_of x) is

-- ---- the first load of each unit, without that of one unit

abbrev others : ℕ → List PendingLoad → List PendingLoad
others number ps = filter (other_than number) ps

abbrev unless_same : Bool → PendingLoad → List PendingLoad → List PendingLoad
unless_same b p ps = cond (not b) (p ∷ ps) ps

pub one_each_other : (number : ℕ) (ps : List PendingLoad)
    → one_each (filter (other_than number) ps) ≡ filter (other_than number) (one_each ps)
one_each_other number [] = refl
one_each_other number (p ∷ ps) = by (p.number == number) refl (one_each_other number ps)
  where
    by : (b : Bool) → (p.number == number) ≡ b → one_each (others number ps) ≡ others number (one_each ps)
        → one_each (others number (p ∷ ps)) ≡ others number (one_each (p ∷ ps))
    by true is h =
        ap (λ c. one_each (unless_same c p (others number ps))) is ∙ h
        ∙ sym (filter_twice (other_than number) (one_each ps))
        ∙ ap (λ n. others number (others n (one_each ps))) (sym (eqb-true p.number number is))
        ∙ sym (ap (λ c. unless_same c p (others number (others p.number (one_each ps)))) is)
    by false is h =
        ap (λ c. one_each (unless_same c p (others number ps))) is
        ∙ ap (λ qs. p ∷ others p.number qs) h
        ∙ ap (λ qs. p ∷ qs) (filter_swap (other_than p.number) (other_than number) (one_each ps))
        ∙ sym (ap (λ c. unless_same c p (others number (others p.number (one_each ps)))) is)
