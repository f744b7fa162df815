-- What lookups find where loads are answered by no file.
use Rattle.std.proofs.Common.{◌≡◌, ◌≢◌, ℕ, zero, suc, Bool, true, false, cond, List, [], ◌∷◌, set, Option, Some, None, Result, Ok, Err, refl, sym, ap, ◌∙◌, subst}
use Rattle.std.specs.Option.{option_or}
use Rattle.addr2line_lookups.specs.Error.{Error}
use Rattle.addr2line_lookups.specs.Error.TheVariants.{Memory}
use Rattle.addr2line_lookups.specs.UnitFacts.{UnitInFile}
use Rattle.addr2line_lookups.specs.Frames.{Frame}
use Rattle.addr2line_lookups.specs.FirstAnswers.{SplitLoad, FirstAnswer, FirstAnswers, PendingLoad, Lookup, output, pending, recorded_answer, decision, load_of, with_answer}
use Rattle.addr2line_lookups.specs.Lookups.{map_output, first_output, unit_in as main_unit_in, frames_under, unit_under, is_answer, is_there, answer_unit_if_any, answer_load}
use Rattle.addr2line_lookups.specs.Pairs.{Pair, covering_pairs}
use Rattle.addr2line_lookups.specs.ContextNames.{naming_in}
use Rattle.addr2line_lookups.specs.Contexts.{ContextUnit, ranges_of}
use Rattle.addr2line_lookups.proofs.PendingLoads.{lookups_of}
use Rattle.addr2line_context.specs.AnsweredContexts.{AnsweredContext}
use Rattle.addr2line_context.specs.FrameLoads.{GivesDecided}
use Rattle.addr2line_context.specs.SettledLookups.{frames_in, unit_in, loads_in, answers_with_first, after_answer}
use Rattle.addr2line_context.specs.SkippedLoads.{answers_without_files, without_files}
use Rattle.addr2line_context.proofs.AnsweredFirst.{IsLoadOf, first_load_of}
use Rattle.addr2line_context.proofs.LookupResults.{ok_unit}

-- ---- a load that is answered by no file

pub same_answers : (answers : FirstAnswers) (n : ℕ) → recorded_answer answers n ≡ None
    → answers_without_files (set answers n (Some (Ok None))) ≡ answers_without_files answers
same_answers [] n h = refl
same_answers (None ∷ answers) zero h = refl
same_answers (Some first ∷ answers) zero h = absurd cc
same_answers (first ∷ answers) (suc n) h =
    ap (λ later. option_or first (Some (Ok None)) ∷ later) (same_answers answers n h)

pub is_unrecorded : (n : ℕ) (load : Result (Option SplitLoad) Error) (r : Option FirstAnswer) (p : PendingLoad)
    → decision n load r ≡ pending p → r ≡ None
is_unrecorded n (Ok None) r p h = absurd cc
is_unrecorded n (Err e) r p h = absurd cc
is_unrecorded n (Ok (Some l)) (Some x) p h = absurd cc
is_unrecorded n (Ok (Some l)) None p h = refl

-- the load of a unit
module _ (c : AnsweredContext) (p : PendingLoad) (u : ContextUnit) (is : IsLoadOf c p u) where
  pub none_recorded : recorded_answer c.answers p.number ≡ None
  none_recorded =
      is_unrecorded p.number (load_of (main_unit_in c.plain u)) (recorded_answer c.answers p.number) p is.1

  pub none_is_recorded : (answer_load c.plain c.answers p.number None).1 ≡ set c.answers p.number (Some (Ok None))
  none_is_recorded =
      ap (λ o. (answer_unit_if_any c.plain c.answers p.number o None).1) is.0
      ∙ ap (λ d. with_answer d (Ok None) c.answers) is.1

  pub same_answers_after : answers_without_files (answer_load c.plain c.answers p.number None).1
      ≡ answers_without_files c.answers
  same_answers_after = ap answers_without_files none_is_recorded ∙ same_answers c.answers p.number none_recorded

-- what is found without files stays the same
pub same_without_files : (c : AnsweredContext) (a : ℕ) → without_files (after_answer c a None) ≡ without_files c
same_without_files c a =
    ap (λ answers. record c { answers = answers }) (by (loads_in c a) refl)
  where
    by : (ps : List PendingLoad) → loads_in c a ≡ ps
        → answers_without_files (answers_with_first c ps None) ≡ answers_without_files c.answers
    by [] is = refl
    by (p ∷ rest) is = let first = first_load_of c a p rest is in same_answers_after c p first.0 first.1

-- ---- a lookup that waits for no load

still_recorded : (answers : FirstAnswers) (n : ℕ) (first : FirstAnswer) → recorded_answer answers n ≡ Some first
    → recorded_answer (answers_without_files answers) n ≡ Some first
still_recorded [] n first h = absurd cc
still_recorded (None ∷ answers) zero first h = absurd cc
still_recorded (Some x ∷ answers) zero first h = h
still_recorded (x ∷ answers) (suc n) first h = still_recorded answers n first h

still_decided : (answers : FirstAnswers) (n : ℕ) (first : FirstAnswer) (load : Result (Option SplitLoad) Error)
    (r : Option FirstAnswer) → recorded_answer answers n ≡ r → decision n load r ≡ output first
    → decision n load (recorded_answer (answers_without_files answers) n) ≡ output first
still_decided answers n first (Ok None) r is h = h
still_decided answers n first (Err e) r is h = h
still_decided answers n first (Ok (Some l)) (Some x) is h =
    ap (decision n (Ok (Some l))) (still_recorded answers n x is) ∙ h
still_decided answers n first (Ok (Some l)) None is h = absurd cc

module _ {X A : Type 0} (number_of : X → ℕ) (load : X → Result (Option SplitLoad) Error)
    (is_something : A → Bool) (nothing : A) (ask : X → FirstAnswer → A) (answers : FirstAnswers) where
  abbrev decide : FirstAnswers → X → Lookup FirstAnswer
  decide recorded x = decision (number_of x) (load x) (recorded_answer recorded (number_of x))

  abbrev found_under : FirstAnswers → List X → Lookup A
  found_under recorded xs = first_output is_something nothing (lookups_of (decide recorded) ask xs)

  abbrev with_first : Lookup FirstAnswer → FirstAnswers → X → List X → Lookup A
  with_first d recorded x xs =
      first_output is_something nothing (map_output (ask x) d ∷ lookups_of (decide recorded) ask xs)

  pub still_found : (found : A) (xs : List X) → found_under answers xs ≡ output found
      → found_under (answers_without_files answers) xs ≡ output found
  still_found found [] h = h
  still_found found (x ∷ xs) h = by (decide answers x) refl h (still_found found xs)
    where
      by : (d : Lookup FirstAnswer) → decide answers x ≡ d → with_first d answers x xs ≡ output found
          → (found_under answers xs ≡ output found → found_under (answers_without_files answers) xs ≡ output found)
          → found_under (answers_without_files answers) (x ∷ xs) ≡ output found
      by (pending p) is h later = absurd cc
      by (output first) is h later =
          ap (λ d. with_first d (answers_without_files answers) x xs)
          (still_decided answers (number_of x) first (load x) (recorded_answer answers (number_of x)) refl is)
          ∙ by_test (is_something (ask x first)) h
        where
          by_test : (b : Bool) → cond b (output (ask x first)) (found_under answers xs) ≡ output found
              → cond b (output (ask x first)) (found_under (answers_without_files answers) xs) ≡ output found
          by_test true h = h
          by_test false h = later h

module _ (c : AnsweredContext) (a : ℕ) where
  pub frames_still_found : (found : Result (List Frame) Error) → frames_in c a ≡ output found
      → frames_in (without_files c) a ≡ output found
  frames_still_found found =
      still_found (λ (p : Pair ContextUnit). p.number) (λ p. load_of (main_unit_in c.plain p.unit)) is_answer (Ok [])
      (λ p. frames_under c.plain (naming_in c.plain) a p.unit) c.answers found
      (covering_pairs ranges_of c.plain.context.units a)

  pub unit_still_found : (found : Option UnitInFile) → unit_in c a ≡ output found
      → unit_in (without_files c) a ≡ output found
  unit_still_found found =
      still_found (λ (p : Pair ContextUnit). p.number) (λ p. load_of (main_unit_in c.plain p.unit)) is_there None
      (λ p. unit_under c.plain (naming_in c.plain) a p.unit) c.answers found
      (covering_pairs ranges_of c.plain.context.units a)

-- the unit of an address, as a lookup that may be refused
abbrev pub unit_or_refusal : AnsweredContext → ℕ → Lookup (Result (Option UnitInFile) Error)
unit_or_refusal c a = map_output (λ u. Ok u) (unit_in c a)

pub unit_or_refusal_still_found : (c : AnsweredContext) (a : ℕ) (found : Result (Option UnitInFile) Error)
    → unit_or_refusal c a ≡ output found → unit_or_refusal (without_files c) a ≡ output found
unit_or_refusal_still_found c a found h = by (unit_in c a) refl h
  where
    by : (l : Lookup (Option UnitInFile)) → unit_in c a ≡ l → map_output ok_unit l ≡ output found
        → unit_or_refusal (without_files c) a ≡ output found
    by (pending p) is h = absurd cc
    by (output u) is h = ap (map_output ok_unit) (unit_still_found c a u is) ∙ h

-- ---- what is found once all loads are skipped

module _ {X Y : Type 0} (see : X → Y) (meaning : AnsweredContext → ℕ → Lookup (Result Y Error))
    (still : (c : AnsweredContext) (a : ℕ) (found : Result Y Error) → meaning c a ≡ output found
    → meaning (without_files c) a ≡ output found) where
  abbrev pub Finds : AnsweredContext → ℕ → Result X Error → Type 0
  Finds c a found = GivesDecided see found (meaning (without_files c) a)

  -- an output
  pub finds_ok : (c : AnsweredContext) (a : ℕ) (x : X) → meaning c a ≡ output (Ok (see x)) → (found : Result X Error)
      → found ≡ Ok x → Finds c a found
  finds_ok c a x h found same = subst (Finds c a) (sym same) (still c a (Ok (see x)) h)

  pub finds_err : (c : AnsweredContext) (a : ℕ) (e : Error) → (e ≢ Memory → meaning c a ≡ output (Err e))
      → (found : Result X Error) → found ≡ Err e → Finds c a found
  finds_err c a e h found same = subst (Finds c a) (sym same) (λ m. still c a (Err e) (h m))

  -- what a lookup of this address finds that waits
  pub finds_there : (c new : AnsweredContext) (a probe : ℕ) → new ≡ c → probe ≡ a → (found : Result X Error)
      → Finds new probe found → Finds c a found
  finds_there c new a probe same place found h =
      subst (λ p. Finds c p found) place (subst (λ d. Finds d probe found) same h)

  -- and a lookup that goes on after a load that is answered by no file
  pub finds_after : (c : AnsweredContext) (a : ℕ) (found : Result X Error) → Finds (after_answer c a None) a found
      → Finds c a found
  finds_after c a found h =
      subst (λ d. GivesDecided see found (meaning d a)) (same_without_files c a) h
