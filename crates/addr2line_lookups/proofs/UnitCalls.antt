-- The functions of a unit and their calls, by what is kept of them.
use Rattle.std.proofs.Common.{◌≡◌, ℕ, zero, suc, ◌<◌, List, [], ◌∷◌, length, slice_get, Option, Some, None, Result, Ok, Err, OnOk, refl, ap, ◌∙◌, arith}
use Rattle.addr2line_unit.specs.Error.{Error}
use Rattle.addr2line_unit.specs.Results.{and_then, each, refusal_of}
use Rattle.addr2line_unit.specs.UnitFacts.{UnitInFile}
use Rattle.addr2line_unit.specs.Functions.{Function, functions_of_unit}
use Rattle.addr2line_unit.specs.InlinedCalls.{Naming, calls_of_function}
use Rattle.addr2line_unit.specs.EntryReferences.{KnownUnits, HoldingUnit}
use Rattle.addr2line_unit.specs.KeptFunctions.{count_of_functions}
use Rattle.addr2line_unit.specs.FirstAnswers.{SplitLoad, FirstAnswer, load_of}
use Rattle.addr2line_unit.specs.ResolvedUnits.{AnsweredUnit, ResolvedUnit, main_unit, undecided, pending_load, first_with, with_unit_answer, first_answer, unit_of_functions, functions_of, calls_of}
use Rattle.addr2line_unit.specs.ContextNames.{naming_from}
use Rattle.addr2line_lookups.specs.UnitParses.{check_functions_of, check_calls_of, check_call_of}

-- what holds in any case
pub on_ok_always : {P : Type 0} (r : Result (Unit {0}) Error) → P → OnOk r P
on_ok_always (Ok x) h = h
on_ok_always (Err e) h = tt

-- ---- loads

-- after an answer no load is pending
no_load_left : (load : Result (Option SplitLoad) Error) (first : Option FirstAnswer) (later : FirstAnswer)
    → undecided load (first_with (undecided load first) later first) ≡ None
no_load_left (Ok None) first later = refl
no_load_left (Err e) first later = refl
no_load_left (Ok (Some l)) None later = refl
no_load_left (Ok (Some l)) (Some x) later = refl

pub decided_after_answer : (old new : ResolvedUnit) (later : FirstAnswer)
    → new.value ≡ with_unit_answer later old.value → pending_load new.value ≡ None
decided_after_answer old new later is =
    ap pending_load is ∙ no_load_left (load_of (main_unit old.value)) old.value.first later

-- ---- calls

abbrev first_refusal : {A : Type 0} → Result A Error → Result (List A) Error → Result (Unit {0}) Error
first_refusal r rest = refusal_of (and_then r (λ y. and_then rest (λ ys. Ok (y ∷ ys))))

refusal_of_two : {A : Type 0} (r : Result A Error) (rest : Result (List A) Error)
    → first_refusal r rest ≡ and_then (refusal_of r) (λ x. refusal_of rest)
refusal_of_two (Ok y) (Ok ys) = refl
refusal_of_two (Ok y) (Err e) = refl
refusal_of_two (Err e) rest = refl

module _ (u : UnitInFile) (naming : Naming) where
  abbrev call_check : List Function → ℕ → Result (Unit {0}) Error
  call_check fs n = refusal_of (calls_of u naming (slice_get fs n))

  abbrev all_checks : List Function → Result (Unit {0}) Error
  all_checks fs = refusal_of (each (λ f. calls_of_function u naming f.offset) fs)

  one_of_all : (f : Function) (fs : List Function)
      → all_checks (f ∷ fs) ≡ and_then (refusal_of (calls_of_function u naming f.offset)) (λ x. all_checks fs)
  one_of_all f fs =
      refusal_of_two (calls_of_function u naming f.offset) (each (λ g. calls_of_function u naming g.offset) fs)

  -- calls that can all be read
  all_pass : (fs : List Function) → ((m : ℕ) → m < length fs → call_check fs m ≡ Ok tt) → all_checks fs ≡ Ok tt
  all_pass [] h = refl
  all_pass (f ∷ fs) h =
      one_of_all f fs ∙ ap (λ r. and_then r (λ x. all_checks fs)) (h 0 (omega arith))
      ∙ all_pass fs (λ m below. h (suc m) (omega (arith, below)))

  -- the first that can't
  first_refuses : (fs : List Function) (n : ℕ) (e : Error) → n < length fs
      → ((m : ℕ) → m < n → call_check fs m ≡ Ok tt) → call_check fs n ≡ Err e → all_checks fs ≡ Err e
  first_refuses [] n e below h is = absurd (omega (arith, below))
  first_refuses (f ∷ fs) zero e below h is =
      one_of_all f fs ∙ ap (λ r. and_then r (λ x. all_checks fs)) is
  first_refuses (f ∷ fs) (suc n) e below h is =
      one_of_all f fs ∙ ap (λ r. and_then r (λ x. all_checks fs)) (h 0 (omega arith))
      ∙ first_refuses fs n e (omega (arith, below)) (λ m less. h (suc m) (omega (arith, less))) is

-- ---- the calls of a unit

abbrev calls_in : KnownUnits → HoldingUnit → List Function → Result (Unit {0}) Error
calls_in known h fs = all_checks h.unit (naming_from known h) fs

module _ (known : KnownUnits) (v : AnsweredUnit) (many : ℕ)
    (count : many ≡ count_of_functions (functions_of v)) where
  abbrev check_number : ℕ → Result (Unit {0}) Error
  check_number n = check_call_of known n v

  -- where the functions can be read, all that counts are the calls
  pub calls_pass : check_functions_of v ≡ Ok tt → ((m : ℕ) → m < many → check_number m ≡ Ok tt)
      → check_calls_of known v ≡ Ok tt
  calls_pass readable h = by (unit_of_functions (main_unit v) (first_answer v)) readable count h
    where
      with_functions_of : (holder : HoldingUnit) (r : Result (List Function) Error) → refusal_of r ≡ Ok tt
          → many ≡ count_of_functions r
          → ((m : ℕ) → m < many
          → refusal_of (and_then r (λ fs. calls_of holder.unit (naming_from known holder) (slice_get fs m)))
          ≡ Ok tt)
          → and_then r (calls_in known holder)
          ≡ Ok tt
      with_functions_of holder (Ok fs) readable count h =
          all_pass holder.unit (naming_from known holder) fs (λ m below. h m (omega (arith, below, count)))
      with_functions_of holder (Err e) readable count h = absurd cc

      by : (r : Result HoldingUnit Error) → refusal_of (and_then r (λ x. functions_of_unit x.unit)) ≡ Ok tt
          → many ≡ count_of_functions (and_then r (λ x. functions_of_unit x.unit))
          → ((m : ℕ) → m < many
          → refusal_of (and_then r (λ x.
          and_then (functions_of_unit x.unit) (λ fs. calls_of x.unit (naming_from known x) (slice_get fs m))))
          ≡ Ok tt)
          → and_then r (λ x. and_then (functions_of_unit x.unit) (calls_in known x))
          ≡ Ok tt
      by (Ok holder) readable count h = with_functions_of holder (functions_of_unit holder.unit) readable count h
      by (Err e) readable count h = absurd cc

  -- and the first that is refused
  pub calls_refuse : (n : ℕ) (e : Error) → n < many → ((m : ℕ) → m < n → check_number m ≡ Ok tt)
      → check_number n ≡ Err e → check_calls_of known v ≡ Err e
  calls_refuse n e below h is = by (unit_of_functions (main_unit v) (first_answer v)) count h is
    where
      with_functions_of : (holder : HoldingUnit) (r : Result (List Function) Error)
          → many ≡ count_of_functions r
          → ((m : ℕ) → m < n
          → refusal_of (and_then r (λ fs. calls_of holder.unit (naming_from known holder) (slice_get fs m)))
          ≡ Ok tt)
          → refusal_of (and_then r (λ fs. calls_of holder.unit (naming_from known holder) (slice_get fs n)))
          ≡ Err e
          → and_then r (calls_in known holder)
          ≡ Err e
      with_functions_of holder (Ok fs) count h is =
          first_refuses holder.unit (naming_from known holder) fs n e (omega (arith, below, count)) h is
      with_functions_of holder (Err d) count h is = absurd (omega (arith, below, count))

      by : (r : Result HoldingUnit Error)
          → many ≡ count_of_functions (and_then r (λ x. functions_of_unit x.unit))
          → ((m : ℕ) → m < n
          → refusal_of (and_then r (λ x.
          and_then (functions_of_unit x.unit) (λ fs. calls_of x.unit (naming_from known x) (slice_get fs m))))
          ≡ Ok tt)
          → refusal_of (and_then r (λ x.
          and_then (functions_of_unit x.unit) (λ fs. calls_of x.unit (naming_from known x) (slice_get fs n))))
          ≡ Err e
          → and_then r (λ x. and_then (functions_of_unit x.unit) (calls_in known x))
          ≡ Err e
      by (Ok holder) count h is = with_functions_of holder (functions_of_unit holder.unit) count h is
      by (Err d) count h is = absurd (omega (arith, below, count))

-- functions that are refused refuse the calls
pub functions_refuse_calls : (known : KnownUnits) (v : AnsweredUnit) (e : Error) → check_functions_of v ≡ Err e
    → check_calls_of known v ≡ Err e
functions_refuse_calls known v e h = by (unit_of_functions (main_unit v) (first_answer v)) h
  where
    with_functions_of : (holder : HoldingUnit) (r : Result (List Function) Error) → refusal_of r ≡ Err e
        → and_then r (calls_in known holder)
        ≡ Err e
    with_functions_of holder (Ok fs) h = absurd cc
    with_functions_of holder (Err d) h = let same : d ≡ e = cc in ap Err same

    by : (r : Result HoldingUnit Error) → refusal_of (and_then r (λ x. functions_of_unit x.unit)) ≡ Err e
        → and_then r (λ x. and_then (functions_of_unit x.unit) (calls_in known x))
        ≡ Err e
    by (Ok holder) h = with_functions_of holder (functions_of_unit holder.unit) h
    by (Err d) h = let same : d ≡ e = cc in ap Err same
