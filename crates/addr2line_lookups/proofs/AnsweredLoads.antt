-- An answer to a load in a context is one to its unit, and what it leaves.
use Rattle.std.proofs.Common.{◌≡◌, ◌<◌, inl, inr, ℕ, List, [], length, set, get_or, map, slice_get, Option, Some, None, option_map, Result, Ok, Err, refl, sym, ap, ◌∙◌, subst}
use Rattle.std.proofs.lemmas.Simd.{map-map}
use Rattle.std.proofs.lemmas.List.{map-set, set-get_or}
use Rattle.std.proofs.lemmas.List.Elements.{All-set}
use Rattle.std.proofs.lemmas.Option.{slice_get-map, slice_get-get_or, get_or_from_slice_get}
use Rattle.std.proofs.Math.Seq.{map-set_same}
use Rattle.addr2line_unit.specs.Error.{Error}
use Rattle.addr2line_unit.specs.Calls.{Returns}
use Rattle.addr2line_unit.specs.Results.{and_then}
use Rattle.addr2line_unit.specs.DwarfFiles.{DwarfFile}
use Rattle.addr2line_unit.specs.UnitFacts.{UnitFacts, in_file}
use Rattle.addr2line_unit.specs.FirstAnswers.{SplitLoad, FirstAnswer, FirstAnswers, recorded_answer, Lookup, decision, first_or, with_answer, load_of, answer_of}
use Rattle.addr2line_unit.specs.Lookups.{answer_unit_if_any, answer_load}
use Rattle.addr2line_unit.specs.Contexts.{FileContext}
use Rattle.addr2line_unit.specs.ResolvedUnits.{AnsweredUnit, ResolvedUnit, value_of_unit, plain_unit, main_unit, pending_load, undecided, decided, first_with, with_unit_answer}
use Rattle.addr2line_unit.proofs.NewUnits.{unit_of}
use Rattle.addr2line_lookups.specs.AnsweredUnits.{first_of, answers_of, IsOfFile, AreOfFile}
use Rattle.addr2line_lookups.specs.LoadAnswers.{AnswersOrNoMemory, check_unit, unit_after, answer_unit, answer_among, answer_at}
use Rattle.addr2line_lookups.proofs.PendingUnits.{recorded_here, same_file}
use Rattle.addr2line_lookups.proofs.ContextOfUnits.{context_of_units}

-- ---- one unit

-- what decides a unit after an answer
pub decided_after : (n : ℕ) (load : Result (Option SplitLoad) Error) (first : Option FirstAnswer) (later : FirstAnswer)
    → first_or (decision n load first) later ≡ decided load (first_with (undecided load first) later first)
decided_after n (Ok None) first later = refl
decided_after n (Err e) first later = refl
decided_after n (Ok (Some l)) None later = refl
decided_after n (Ok (Some l)) (Some x) later = refl

-- the answers after it
pub answers_after : (n : ℕ) (load : Result (Option SplitLoad) Error) (first : Option FirstAnswer) (later : FirstAnswer)
    (answers : FirstAnswers) → set answers n first ≡ answers
    → with_answer (decision n load first) later answers ≡ set answers n (first_with (undecided load first) later first)
answers_after n (Ok None) first later answers h = sym h
answers_after n (Err e) first later answers h = sym h
answers_after n (Ok (Some l)) None later answers h = refl
answers_after n (Ok (Some l)) (Some x) later answers h = sym h

pub set_same : {A : Type 0} (xs : List A) (n : ℕ) (x : A) → slice_get xs n ≡ Some x → set xs n x ≡ xs
set_same xs n x is =
    ap (set xs n) (sym (get_or_from_slice_get xs n x x is)) ∙ set-get_or xs n x

-- a decided unit stays as it is
pub decided_stays : (v : AnsweredUnit) (later : FirstAnswer) → pending_load v ≡ None → with_unit_answer later v ≡ v
decided_stays v later decided = ap (λ o. record v { first = first_with o later v.first }) decided

-- so does one without a load
returned : (r meaning : Result (Unit {0}) Error) → Returns r meaning → meaning ≡ r
returned (Ok x) meaning h = h
returned (Err e) meaning h = h

pub answer_without_load : (v : AnsweredUnit) (file : Option DwarfFile) (r : Result (Unit {0}) Error)
    → load_of (main_unit v) ≡ Ok None → Returns r (check_unit v) → answer_unit v file ≡ (r, v)
answer_without_load v file r none h =
    ap (λ w. (check_unit w, w)) (decided_stays v (answer_of v.unit.facts file) (ap (λ l. undecided l v.first) none))
    ∙ ap (λ x. (x, v)) (returned r (check_unit v) h)

-- ---- units

module _ (file : DwarfFile) (vs : List AnsweredUnit) (of_file : AreOfFile file vs) (s : List UnitFacts)
    (answer : Option DwarfFile) where
  abbrev context_here : FileContext
  context_here = context_of_units file (map unit_of vs) s

  abbrev Answered : Type 0
  Answered = Result (Unit {0}) Error × List AnsweredUnit

  abbrev with_answers_alone : Answered → Result (Unit {0}) Error × FirstAnswers
  with_answers_alone r = (r.0, answers_of r.1)

  abbrev answered_by : Lookup FirstAnswer → FirstAnswer → Result (Unit {0}) Error × FirstAnswers
  answered_by d later = (and_then (first_or d later) (λ split. Ok tt), with_answer d later (answers_of vs))

  answer_here : (n : ℕ) (v : AnsweredUnit) → slice_get vs n ≡ Some v
      → answered_by (decision n (load_of (in_file file v.unit.facts)) (recorded_answer (answers_of vs) n))
      (answer_of v.unit.facts answer)
      ≡ (check_unit (unit_after answer v), answers_of (set vs n (unit_after answer v)))
  answer_here n v is =
      let later = answer_of v.unit.facts answer in
      let load = load_of (main_unit v) in
      ap (λ f. answered_by (decision n (load_of (in_file f v.unit.facts)) (recorded_answer (answers_of vs) n)) later)
      (sym (same_file file vs of_file n v is))
      ∙ ap (λ first. answered_by (decision n load first) later) (recorded_here file vs of_file n v is)
      ∙ ap (λ d. (and_then d (λ split. Ok tt), with_answer (decision n load v.first) later (answers_of vs)))
      (decided_after n load v.first later)
      ∙ ap (λ l. (check_unit (unit_after answer v), l))
      (answers_after n load v.first later (answers_of vs)
      (sym (map-set first_of vs n v) ∙ ap answers_of (set_same vs n v is))
      ∙ sym (map-set first_of vs n (unit_after answer v)))

  answer_by : (n : ℕ) (o : Option AnsweredUnit) → slice_get vs n ≡ o
      → answer_unit_if_any context_here (answers_of vs) n (option_map unit_of o) answer
      ≡ with_answers_alone (answer_among vs n o answer)
  answer_by n None is = refl
  answer_by n (Some v) is = answer_here n v is

  -- an answer in the context is one to its units
  pub answers_of_units : (n : ℕ)
      → answer_load context_here (answers_of vs) n answer ≡ with_answers_alone (answer_at vs n answer)
  answers_of_units n =
      ap (λ o. answer_unit_if_any context_here (answers_of vs) n o answer) (slice_get-map unit_of vs n)
      ∙ answer_by n (slice_get vs n) refl

  -- the units stay in their file
  of_file_by : (n : ℕ) (o : Option AnsweredUnit) → slice_get vs n ≡ o → AreOfFile file (answer_among vs n o answer).1
  of_file_by n None is = of_file
  of_file_by n (Some v) is =
      All-set (IsOfFile file) vs n (unit_after answer v) (same_file file vs of_file n v is) of_file

  pub of_file_after : (n : ℕ) → AreOfFile file (answer_at vs n answer).1
  of_file_after n = of_file_by n (slice_get vs n) refl

-- and are the same but for their answers
units_by : (vs : List AnsweredUnit) (answer : Option DwarfFile) (n : ℕ) (o : Option AnsweredUnit) → slice_get vs n ≡ o
    → map unit_of (answer_among vs n o answer).1 ≡ map unit_of vs
units_by vs answer n None is = refl
units_by vs answer n (Some v) is =
    map-set_same unit_of vs n (unit_after answer v) v (ap unit_of (sym (get_or_from_slice_get vs n v v is)))

pub units_after : (vs : List AnsweredUnit) (answer : Option DwarfFile) (n : ℕ)
    → map unit_of (answer_at vs n answer).1 ≡ map unit_of vs
units_after vs answer n = units_by vs answer n (slice_get vs n) refl

-- ---- what a call leaves

-- what holds of the units after an answer holds of those that the call leaves
leaves : (P : List AnsweredUnit → Type 0) (result : Result (Unit {0}) Error) (old new : List AnsweredUnit)
    (meaning : Result (Unit {0}) Error × List AnsweredUnit) → AnswersOrNoMemory result old new meaning → P meaning.1
    → P old → P new
leaves P result old new meaning (inl is) after before = subst P (ap (λ r. r.1) is) after
leaves P result old new meaning (inr none) after before = subst P (sym none.1) before

-- the same call as the context sees it
pub answers_left : (f : List AnsweredUnit → FirstAnswers) (result : Result (Unit {0}) Error)
    (old new : List AnsweredUnit)
    (meaning : Result (Unit {0}) Error × List AnsweredUnit) → AnswersOrNoMemory result old new meaning
    → AnswersOrNoMemory result (f old) (f new) (meaning.0, f meaning.1)
answers_left f result old new meaning (inl is) = inl (ap (λ r. (r.0, f r.1)) is)
answers_left f result old new meaning (inr none) = inr (none.0, ap f none.1)

module _ (us us' : List ResolvedUnit) (result : Result (Unit {0}) Error) (n : ℕ) (answer : Option DwarfFile)
    (h : AnswersOrNoMemory result (map value_of_unit us) (map value_of_unit us')
    (answer_at (map value_of_unit us) n answer)) where
  pub plain_left : map plain_unit us' ≡ map plain_unit us
  plain_left =
      sym (map-map unit_of value_of_unit us')
      ∙ leaves (λ vs. map unit_of vs ≡ map unit_of (map value_of_unit us)) result (map value_of_unit us)
      (map value_of_unit us') (answer_at (map value_of_unit us) n answer) h
      (units_after (map value_of_unit us) answer n) refl
      ∙ map-map unit_of value_of_unit us

  pub file_left : (file : DwarfFile) → AreOfFile file (map value_of_unit us) → AreOfFile file (map value_of_unit us')
  file_left file of_file =
      leaves (AreOfFile file) result (map value_of_unit us) (map value_of_unit us')
      (answer_at (map value_of_unit us) n answer) h
      (of_file_after file (map value_of_unit us) of_file [] answer n) of_file

-- ---- one of the units

module _ (us : List ResolvedUnit) (n : ℕ) (answer : Option DwarfFile) where
  module _ (u new : ResolvedUnit) (result : Result (Unit {0}) Error) (below : n < length us)
      (is : u ≡ get_or us n u) where
    value_here : slice_get (map value_of_unit us) n ≡ Some u.value
    value_here =
        slice_get-map value_of_unit us n
        ∙ ap (option_map value_of_unit) (slice_get-get_or us n u below ∙ ap Some (sym is))

    pub answer_is : answer_unit u.value answer ≡ (result, new.value)
        → answer_at (map value_of_unit us) n answer ≡ (result, map value_of_unit (set us n new))
    answer_is h =
        ap (λ o. answer_among (map value_of_unit us) n o answer) value_here
        ∙ ap (λ r. (r.0, set (map value_of_unit us) n r.1)) h
        ∙ ap (λ l. (result, l)) (sym (map-set value_of_unit us n new))

    pub answer_there : AnswersOrNoMemory result u.value new.value (answer_unit u.value answer)
        → AnswersOrNoMemory result (map value_of_unit us) (map value_of_unit (set us n new))
        (answer_at (map value_of_unit us) n answer)
    answer_there (inl h) = inl (answer_is h)
    answer_there (inr none) =
        inr (none.0, map-set_same value_of_unit us n new u (none.1 ∙ ap value_of_unit is))
