-- The calls that are kept of the functions of the unit of a number.
use Rattle.std.proofs.Common.{◌≡◌, ◌⊎◌, inl, inr, ℕ, ◌<◌, ◌≤◌, ◌+◌, true, List, length, map, get_or, slice_get, Option, Some, None, is_some, IfSome, Result, Ok, Err, sym, ap, ◌∙◌, subst, arith}
use Rattle.std.proofs.lemmas.Bool.{cases_lt}
use Rattle.addr2line_unit.specs.Error.{Error}
use Rattle.addr2line_unit.specs.UnitFacts.{UnitFacts}
use Rattle.addr2line_unit.specs.InlinedCalls.{FunctionCalls}
use Rattle.addr2line_unit.specs.EntryReferences.{KnownUnits}
use Rattle.addr2line_unit.specs.KeptFunctions.{kept_at, count_of_functions}
use Rattle.addr2line_unit.specs.ResolvedUnits.{AnsweredUnit, ResolvedUnit, value_of_unit, functions_of, IsKeptOf}
use Rattle.addr2line_unit.specs.Results.{refusal_of}
use Rattle.addr2line_lookups.specs.KeptUnits.{KeepsFunctionsAt}
use Rattle.addr2line_lookups.specs.KeptCalls.{known_among, calls_among, HoldCalls}
use Rattle.addr2line_lookups.specs.FunctionPlaces.{KeepsCallsAt}
use Rattle.addr2line_lookups.specs.UnitParses.{ChecksOrNoMemory, check_call_of, check_if_any, check_unit_at, check_functions_of, check_calls_of}
use Rattle.addr2line_lookups.proofs.CallsLeft.{known_same}
use Rattle.addr2line_lookups.proofs.CallsOfUnits.{if_here, holds_here}
use Rattle.addr2line_lookups.proofs.UnitTurns.{check_before}
use Rattle.addr2line_lookups.proofs.UnitCalls.{calls_pass, calls_refuse, functions_refuse_calls}

-- ---- what is kept

module _ (us : List ResolvedUnit) (n : ℕ) (u : ResolvedUnit) (below : n < length us) (is : u ≡ get_or us n u) where
  pub kept_there : (f : ℕ) → KeepsCallsAt us n f → is_some (kept_at u.calls f) ≡ true
  kept_there f kept = if_here us n u below is (λ w. is_some (kept_at w.calls f) ≡ true) kept

  pub functions_at : KeepsFunctionsAt us n → u.keeps_functions ≡ true
  functions_at kept = if_here us n u below is (λ w. w.keeps_functions ≡ true) kept

-- ---- what is said of calls that are kept

said_of_kept : (o : Option (Result FunctionCalls Error)) (meaning : Result FunctionCalls Error)
    (result : Result (Unit {0}) Error) → is_some o ≡ true → IsKeptOf meaning o
    → IfSome o (λ r. refusal_of r ≡ result) → refusal_of meaning ≡ result
said_of_kept None meaning result kept is said = absurd cc
said_of_kept (Some r) meaning result kept is said = sym (ap refusal_of is) ∙ said

pub call_checked : (known : KnownUnits) (us vs : List ResolvedUnit) (n f : ℕ) (u : ResolvedUnit)
    (result : Result (Unit {0}) Error) → map value_of_unit vs ≡ map value_of_unit us → n < length vs
    → u ≡ get_or vs n u → KeepsCallsAt vs n f → HoldCalls known vs
    → IfSome (kept_at u.calls f) (λ r. refusal_of r ≡ result)
    → ChecksOrNoMemory result (check_unit_at (check_call_of known f) (map value_of_unit us) n)
call_checked known us vs n f u result same below is kept h said =
    inl (ap (λ values. check_unit_at (check_call_of known f) values n) (sym same)
    ∙ check_before vs n u u below is (check_call_of known f)
    ∙ said_of_kept (kept_at u.calls f) (calls_among known u.value f) result (kept_there vs n u below is f kept)
    (holds_here vs n u below is known h f) said)

-- ---- one function after the other

-- what holds below a number, and of it
pub one_further : (P : ℕ → Type 0) (n : ℕ) → ((m : ℕ) → m < n → P m) → P n → (m : ℕ) → m < n + 1 → P m
one_further P n before here m below = by (cases_lt m n)
  where
    by : (m < n) ⊎ (n ≤ m) → P m
    by (inl less) = before m less
    by (inr most) = let same : n ≡ m = omega (arith, most, below) in subst P same here

-- what holds below a number, and from there on
pub of_all : (P : ℕ → Type 0) (n : ℕ) → ((m : ℕ) → m < n → P m) → ((m : ℕ) → n ≤ m → P m) → (m : ℕ) → P m
of_all P n before past m = by (cases_lt m n)
  where
    by : (m < n) ⊎ (n ≤ m) → P m
    by (inl less) = before m less
    by (inr most) = past m most

-- a refusal of its functions is one of a unit's calls
pub functions_refuse_at : (known : KnownUnits) (vs : List AnsweredUnit) (n : ℕ) (e : Error)
    → check_unit_at check_functions_of vs n ≡ Err e → check_unit_at (check_calls_of known) vs n ≡ Err e
functions_refuse_at known vs n e h = by (slice_get vs n) h
  where
    by : (o : Option AnsweredUnit) → check_if_any check_functions_of o ≡ Err e
        → check_if_any (check_calls_of known) o ≡ Err e
    by None h = absurd cc
    by (Some v) h = functions_refuse_calls known v e h

pub functions_refused_at : (known : KnownUnits) (vs : List AnsweredUnit) (n : ℕ) (e : Error)
    → ChecksOrNoMemory (Err e) (check_unit_at check_functions_of vs n)
    → ChecksOrNoMemory (Err e) (check_unit_at (check_calls_of known) vs n)
functions_refused_at known vs n e (inl refused) = inl (functions_refuse_at known vs n e refused)
functions_refused_at known vs n e (inr none) = inr none

-- functions that aren't refused
pub readable_of : (vs : List AnsweredUnit) (n : ℕ) → ChecksOrNoMemory (Ok tt) (check_unit_at check_functions_of vs n)
    → check_unit_at check_functions_of vs n ≡ Ok tt
readable_of vs n (inl readable) = readable
readable_of vs n (inr none) = absurd cc

-- ---- all functions of a unit

module _ (s : List UnitFacts) (us : List ResolvedUnit) (n : ℕ) where
  abbrev pub known_here : KnownUnits
  known_here = known_among us s

  -- what is said of the functions below a number
  abbrev pub PassBelow : ℕ → Type 0
  PassBelow f =
      (m : ℕ) → m < f → check_unit_at (check_call_of known_here m) (map value_of_unit us) n ≡ Ok tt

  module _ (vs : List ResolvedUnit) (same : map value_of_unit vs ≡ map value_of_unit us) where
    pub known_now : known_among vs s ≡ known_here
    known_now = known_same us vs same s

    -- the same, as a call on units with the same values says it
    pub checked_now : (f : ℕ) (r : Result (Unit {0}) Error)
        → ChecksOrNoMemory r (check_unit_at (check_call_of (known_among vs s) f) (map value_of_unit vs) n)
        → ChecksOrNoMemory r (check_unit_at (check_call_of known_here f) (map value_of_unit us) n)
    checked_now f r h =
        subst (λ values. ChecksOrNoMemory r (check_unit_at (check_call_of known_here f) values n)) same
        (subst (λ known. ChecksOrNoMemory r (check_unit_at (check_call_of known f) (map value_of_unit vs) n))
        known_now h)

  pub pass_further : (f : ℕ) → PassBelow f
      → ChecksOrNoMemory (Ok tt) (check_unit_at (check_call_of known_here f) (map value_of_unit us) n)
      → PassBelow (f + 1)
  pass_further f before (inl here) =
      one_further (λ m. check_unit_at (check_call_of known_here m) (map value_of_unit us) n ≡ Ok tt) f before here
  pass_further f before (inr none) = absurd cc

  module _ (u : ResolvedUnit) (below : n < length us) (is : u ≡ get_or us n u) (many : ℕ)
      (count : many ≡ count_of_functions (functions_of u.value)) where
    here_is : (m : ℕ)
        → check_unit_at (check_call_of known_here m) (map value_of_unit us) n ≡ check_call_of known_here m u.value
    here_is m = check_before us n u u below is (check_call_of known_here m)

    pub all_checked : (f : ℕ) → many ≤ f → check_unit_at check_functions_of (map value_of_unit us) n ≡ Ok tt
        → PassBelow f
        → ChecksOrNoMemory (Ok tt) (check_unit_at (check_calls_of known_here) (map value_of_unit us) n)
    all_checked f past readable pass =
        inl (check_before us n u u below is (check_calls_of known_here)
        ∙ calls_pass known_here u.value many count
        (sym (check_before us n u u below is check_functions_of) ∙ readable)
        (λ m less. sym (here_is m) ∙ pass m (omega (arith, past, less))))

    pub refused_at : (f : ℕ) (e : Error) → f < many → PassBelow f
        → ChecksOrNoMemory (Err e) (check_unit_at (check_call_of known_here f) (map value_of_unit us) n)
        → ChecksOrNoMemory (Err e) (check_unit_at (check_calls_of known_here) (map value_of_unit us) n)
    refused_at f e less pass (inl refused) =
        inl (check_before us n u u below is (check_calls_of known_here)
        ∙ calls_refuse known_here u.value many count f e less (λ m lower. sym (here_is m) ∙ pass m lower)
        (sym (here_is f) ∙ refused))
    refused_at f e less pass (inr none) = inr none
