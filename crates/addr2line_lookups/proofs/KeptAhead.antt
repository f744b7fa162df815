-- What a walk that parses units ahead keeps of them.
use Rattle.std.proofs.Common.{◌≡◌, ◌≢◌, ◌⊎◌, inl, inr, ℕ, zero, suc, ◌+◌, ◌<◌, ◌≤◌, true, List, [], ◌∷◌, length, map, set, get_or, slice_get, Option, Some, None, is_some, IfSome, option_map, Result, Ok, Err, refl, sym, ap, ◌∙◌, subst, arith}
use Rattle.std.proofs.lemmas.Bool.{cases_lt}
use Rattle.std.proofs.lemmas.Option.{slice_get-map, slice_get_past}
use Rattle.addr2line_unit.specs.Error.{Error}
use Rattle.addr2line_unit.specs.Error.TheVariants.{Memory}
use Rattle.addr2line_unit.specs.KeptFunctions.{kept_at, count_of_functions}
use Rattle.addr2line_unit.specs.ResolvedUnits.{AnsweredUnit, ResolvedUnit, value_of_unit, functions_of}
use Rattle.addr2line_lookups.specs.KeptUnits.{KeepsFunctionList, KeepsFunctionCalls, KeepMoreFunctions, KeepsFunctionsAt}
use Rattle.addr2line_lookups.specs.FunctionPlaces.{KeepsCallsAt}
use Rattle.addr2line_lookups.specs.UnitParses.{without_load, check_functions_of, ChecksOrNoMemory, after_turn_of, after_turn, check_unit_at, KeepAllFunctions, AsksForFunctions, KeepsAllCalls, KeepsAllCallsAt, KeepAllCalls}
use Rattle.addr2line_lookups.proofs.UnitTurns.{no_functions_past}
use Rattle.addr2line_lookups.proofs.CallsOfUnits.{value_here}
use Rattle.addr2line_lookups.proofs.KeptCallsAt.{one_further, of_all}

-- ---- functions

abbrev done : Result (Unit {0}) Error
done = Ok tt

abbrev stopped : Error → Result (Unit {0}) Error
stopped e = Err e

-- those of the units before a number are kept
abbrev pub FunctionsBelow : ℕ → List ResolvedUnit → Type 0
FunctionsBelow k us = (n : ℕ) → n < k → KeepsFunctionsAt us n

pub functions_further : (us vs : List ResolvedUnit) (k : ℕ) → FunctionsBelow k us → KeepMoreFunctions us vs
    → KeepsFunctionsAt vs k → FunctionsBelow (k + 1) vs
functions_further us vs k before more here =
    one_further (KeepsFunctionsAt vs) k (λ n below. more.functions n (before n below)) here

pub functions_of_all : (us : List ResolvedUnit) (k : ℕ) → FunctionsBelow k us → length us ≤ k → KeepAllFunctions us
functions_of_all us k before past =
    of_all (KeepsFunctionsAt us) k before (λ n most. no_functions_past us n (omega (arith, past, most)))

-- where those of a unit are refused
pub functions_refused : (us vs : List ResolvedUnit) (k : ℕ) (e : Error) → FunctionsBelow k us → KeepMoreFunctions us vs
    → KeepsFunctionsAt vs k → ChecksOrNoMemory (Err e) (check_unit_at check_functions_of (map value_of_unit vs) k)
    → e ≢ Memory → (n : ℕ) → AsksForFunctions (map value_of_unit vs) n → KeepsFunctionsAt vs n
functions_refused us vs k e before more here refuses other n asks = by (cases_lt n (k + 1))
  where
    never : ChecksOrNoMemory (Err e) (check_unit_at check_functions_of (map value_of_unit vs) k)
        → check_unit_at check_functions_of (map value_of_unit vs) k ≡ Ok tt → ⊥
    never (inl refused) passed = let both : stopped e ≡ done = sym refused ∙ passed in cc
    never (inr none) passed =
        let both : stopped e ≡ stopped Memory = none in
        let same : e ≡ Memory = cc in other same

    by : (n < k + 1) ⊎ (k + 1 ≤ n) → KeepsFunctionsAt vs n
    by (inl below) = functions_further us vs k before more here n below
    by (inr past) = absurd (never refuses (asks k (omega (arith, past))))

-- ---- the calls of the functions of one unit

-- those of the functions before a number are kept
abbrev pub CallsBelow : List ResolvedUnit → ℕ → ℕ → Type 0
CallsBelow us n f = (k : ℕ) → k < f → IfSome (slice_get us n) (KeepsFunctionCalls k)

with_functions_kept : (us : List ResolvedUnit) (n k : ℕ) → KeepsFunctionsAt us n → KeepsCallsAt us n k
    → IfSome (slice_get us n) (KeepsFunctionCalls k)
with_functions_kept us n k functions calls = by (slice_get us n) functions calls
  where
    by : (o : Option ResolvedUnit) → IfSome o KeepsFunctionList → IfSome o (λ u. is_some (kept_at u.calls k) ≡ true)
        → IfSome o (KeepsFunctionCalls k)
    by None list called = tt
    by (Some u) list called = (list, called)

pub calls_further : (us vs : List ResolvedUnit) (n f : ℕ) → CallsBelow us n f → KeepMoreFunctions us vs
    → KeepsFunctionsAt vs n → KeepsCallsAt vs n f → CallsBelow vs n (f + 1)
calls_further us vs n f before more functions here =
    one_further (λ k. IfSome (slice_get vs n) (KeepsFunctionCalls k)) f
    (λ k below. more.calls k n (before k below)) (with_functions_kept vs n f functions here)

-- those of all its functions
pub calls_of_unit : (us vs : List ResolvedUnit) (n : ℕ) (u : ResolvedUnit) → n < length us → u ≡ get_or us n u
    → map value_of_unit vs ≡ map value_of_unit us → (many f : ℕ) → many ≡ count_of_functions (functions_of u.value)
    → many ≤ f → KeepsFunctionsAt vs n → CallsBelow vs n f → KeepsAllCallsAt vs n
calls_of_unit us vs n u below is same many f count past functions calls =
    by (slice_get vs n) value_is functions calls
  where
    value_is : option_map value_of_unit (slice_get vs n) ≡ Some u.value
    value_is =
        sym (slice_get-map value_of_unit vs n) ∙ ap (λ (values : List AnsweredUnit). slice_get values n) same
        ∙ value_here us n u below is

    by : (o : Option ResolvedUnit) → option_map value_of_unit o ≡ Some u.value → IfSome o KeepsFunctionList
        → ((k : ℕ) → k < f → IfSome o (KeepsFunctionCalls k)) → IfSome o KeepsAllCalls
    by None found list called = tt
    by (Some w) found list called =
        let here : Some w.value ≡ Some u.value = found in
        let value : w.value ≡ u.value = cc in
        let count_here : count_of_functions (functions_of w.value) ≡ many =
        ap (λ (v : AnsweredUnit). count_of_functions (functions_of v)) value ∙ sym count in (
          list,
          λ k less.
              let less_many : k < many = subst (λ m. k < m) count_here less in
              called k (omega (arith, less_many, past)),
        )

-- there are none past the last unit
pub no_calls_past : (us : List ResolvedUnit) (n : ℕ) → length us ≤ n → KeepsAllCallsAt us n
no_calls_past us n past =
    subst (λ (o : Option ResolvedUnit). IfSome o KeepsAllCalls) (sym (slice_get_past us n past)) tt

-- ---- the calls of all units

set_later : {A : Type 0} (xs : List A) (k n : ℕ) (x : A) → n < k → slice_get (set xs k x) n ≡ slice_get xs n
set_later [] k n x less = refl
set_later (y ∷ ys) zero n x less = absurd (omega (arith, less))
set_later (y ∷ ys) (suc k) zero x less = refl
set_later (y ∷ ys) (suc k) (suc n) x less = set_later ys k n x (omega (arith, less))

-- the turn of a later unit
turn_later : (vs : List AnsweredUnit) (k n : ℕ) → n < k → slice_get (after_turn vs k) n ≡ slice_get vs n
turn_later vs k n less = by (slice_get vs k)
  where
    by : (o : Option AnsweredUnit) → slice_get (after_turn_of vs k o) n ≡ slice_get vs n
    by None = refl
    by (Some v) = set_later vs k n (without_load v) less

kept_still : (us vs : List ResolvedUnit) (k n : ℕ) → n < k
    → map value_of_unit vs ≡ after_turn (map value_of_unit us) k → KeepMoreFunctions us vs → KeepsAllCallsAt us n
    → KeepsAllCallsAt vs n
kept_still us vs k n less turn more kept =
    by (slice_get us n) (slice_get vs n) value_is (more.functions n) (λ f. more.calls f n) kept
  where
    value_is : option_map value_of_unit (slice_get vs n) ≡ option_map value_of_unit (slice_get us n)
    value_is =
        sym (slice_get-map value_of_unit vs n) ∙ ap (λ (values : List AnsweredUnit). slice_get values n) turn
        ∙ turn_later (map value_of_unit us) k n less ∙ slice_get-map value_of_unit us n

    by : (o p : Option ResolvedUnit) → option_map value_of_unit p ≡ option_map value_of_unit o
        → (IfSome o KeepsFunctionList → IfSome p KeepsFunctionList)
        → ((f : ℕ) → IfSome o (KeepsFunctionCalls f) → IfSome p (KeepsFunctionCalls f)) → IfSome o KeepsAllCalls
        → IfSome p KeepsAllCalls
    by o None found list calls before = tt
    by None (Some w) found list calls before = absurd cc
    by (Some u) (Some w) found list calls before =
        let here : Some w.value ≡ Some u.value = found in
        let value : w.value ≡ u.value = cc in
        let P : AnsweredUnit → Type 0 =
        λ v. (f : ℕ) → f < count_of_functions (functions_of v) → KeepsFunctionCalls f w in
        (list before.0, subst P (sym value) (λ f below. calls f (before.1 f below)))

-- those of the units before a number are kept
abbrev pub UnitsBelow : ℕ → List ResolvedUnit → Type 0
UnitsBelow k us = (n : ℕ) → n < k → KeepsAllCallsAt us n

pub units_further : (us vs : List ResolvedUnit) (k : ℕ) → UnitsBelow k us
    → map value_of_unit vs ≡ after_turn (map value_of_unit us) k → KeepMoreFunctions us vs → KeepsAllCallsAt vs k
    → UnitsBelow (k + 1) vs
units_further us vs k before turn more here =
    one_further (KeepsAllCallsAt vs) k (λ n below. kept_still us vs k n below turn more (before n below)) here

pub calls_of_all : (us : List ResolvedUnit) (k : ℕ) → UnitsBelow k us → length us ≤ k → KeepAllCalls us
calls_of_all us k before past =
    of_all (KeepsAllCallsAt us) k before (λ n most. no_calls_past us n (omega (arith, past, most)))
