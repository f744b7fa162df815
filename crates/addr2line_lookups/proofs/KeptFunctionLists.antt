-- Functions and calls that are kept stay kept, whatever is read; and where no functions are read.
use Rattle.std.proofs.Common.{◌≡◌, ℕ, zero, suc, true, cond, List, [], ◌∷◌, set, get_or, Option, Some, is_some, Result, Ok, Err, OnOk, OnErr, refl, sym, ap, ◌∙◌, subst}
use Rattle.addr2line_unit.specs.Error.{Error}
use Rattle.addr2line_unit.specs.InlinedCalls.{FunctionCalls}
use Rattle.addr2line_unit.specs.KeptFunctions.{kept_at, calls_of_none, count_of_functions}
use Rattle.addr2line_unit.specs.ResolvedUnits.{ResolvedUnit, functions_of, with_functions, with_calls}
use Rattle.addr2line_lookups.specs.KeptUnits.{HoldsStill, KeepsFunctionList, KeepsFunctionCalls, KeepsMoreFunctions, KeepMoreFunctions, ReadsNoFunctions}
use Rattle.addr2line_lookups.proofs.UnitChanges.{held_before}

-- ---- one unit

abbrev Calls : Type 0
Calls = List (Option (Result FunctionCalls Error))

-- neither functions nor calls are read
pub functions_same : (old new : ResolvedUnit) → new.keeps_functions ≡ old.keeps_functions → new.calls ≡ old.calls
    → KeepsMoreFunctions old new
functions_same old new functions calls = record {
  functions = λ kept. functions ∙ kept;
  calls = λ k kept. (functions ∙ kept.0, ap (λ (cs : Calls). is_some (kept_at cs k)) calls ∙ kept.1);
}

-- nothing changes
pub functions_unchanged : (old new : ResolvedUnit) → new ≡ old → KeepsMoreFunctions old new
functions_unchanged old new same =
    functions_same old new (ap (λ (u : ResolvedUnit). u.keeps_functions) same)
    (ap (λ (u : ResolvedUnit). u.calls) same)

-- functions are read, unless they are kept
pub functions_read : (old new : ResolvedUnit) → new ≡ with_functions old → KeepsMoreFunctions old new
functions_read old new is = record {
  functions = λ kept. subst KeepsFunctionList (sym (same kept)) kept;
  calls = λ k kept. subst (KeepsFunctionCalls k) (sym (same kept.0)) kept;
}
  where
    same : KeepsFunctionList old → new ≡ old
    same kept =
        is
        ∙ ap (λ b. cond b old (record old {
          keeps_functions = true;
          calls = calls_of_none (count_of_functions (functions_of old.value));
        })) kept

kept_put : (cs : Calls) (n k : ℕ) (r : Result FunctionCalls Error) → is_some (kept_at cs k) ≡ true
    → is_some (kept_at (set cs n (Some r)) k) ≡ true
kept_put [] n k r kept = kept
kept_put (c ∷ cs) zero zero r kept = refl
kept_put (c ∷ cs) zero (suc k) r kept = kept
kept_put (c ∷ cs) (suc n) zero r kept = kept
kept_put (c ∷ cs) (suc n) (suc k) r kept = kept_put cs n k r kept

-- calls of one of them are read
pub functions_called : (old new : ResolvedUnit) (n : ℕ) (r : Result FunctionCalls Error)
    (result : Result (Unit {0}) Error) → OnOk result (new ≡ with_calls old n r) → OnErr result (new ≡ old)
    → KeepsMoreFunctions old new
functions_called old new n r (Ok x) is same = record {
  functions = λ kept. ap (λ (u : ResolvedUnit). u.keeps_functions) is ∙ kept;
  calls = λ k kept. subst (KeepsFunctionCalls k) (sym is) (kept.0, kept_put old.calls n k r kept.1);
}
functions_called old new n r (Err e) is same = functions_unchanged old new same

-- one change after the other
pub functions_both_of : (u v w : ResolvedUnit) → KeepsMoreFunctions u v → KeepsMoreFunctions v w
    → KeepsMoreFunctions u w
functions_both_of u v w first then = record {
  functions = λ kept. then.functions (first.functions kept);
  calls = λ k kept. then.calls k (first.calls k kept);
}

-- ---- units

pub functions_none : (us : List ResolvedUnit) → KeepMoreFunctions us us
functions_none us = record { functions = λ n kept. kept; calls = λ k n kept. kept }

pub functions_both : (us vs ws : List ResolvedUnit) → KeepMoreFunctions us vs → KeepMoreFunctions vs ws
    → KeepMoreFunctions us ws
functions_both us vs ws first then = record {
  functions = λ n kept. then.functions n (first.functions n kept);
  calls = λ k n kept. then.calls k n (first.calls k n kept);
}

-- what holds of one that is put back
pub holds_put : (P : ResolvedUnit → Type 0) (us : List ResolvedUnit) (n : ℕ) (u new : ResolvedUnit)
    → u ≡ get_or us n u → (P u → P new) → HoldsStill P us (set us n new)
holds_put P [] n u new is still m kept = kept
holds_put P (v ∷ us) zero u new is still zero kept = still (subst P (sym is) kept)
holds_put P (v ∷ us) zero u new is still (suc m) kept = kept
holds_put P (v ∷ us) (suc n) u new is still zero kept = kept
holds_put P (v ∷ us) (suc n) u new is still (suc m) kept = holds_put P us n u new is still m kept

pub functions_put : (us : List ResolvedUnit) (n : ℕ) (u new : ResolvedUnit) → u ≡ get_or us n u
    → KeepsMoreFunctions u new → KeepMoreFunctions us (set us n new)
functions_put us n u new is more = record {
  functions = holds_put KeepsFunctionList us n u new is more.functions;
  calls = λ k. holds_put (KeepsFunctionCalls k) us n u new is (more.calls k);
}

-- one whose functions weren't read
pub no_functions_set : (us : List ResolvedUnit) (n : ℕ) (u : ResolvedUnit) → u ≡ get_or us n u → (new : ResolvedUnit)
    → new.keeps_functions ≡ u.keeps_functions → ReadsNoFunctions us (set us n new)
no_functions_set us n u is new same = held_before KeepsFunctionList us n u new is (λ kept. sym same ∙ kept)

pub no_functions_none : (us : List ResolvedUnit) → ReadsNoFunctions us us
no_functions_none us n kept = kept

pub no_functions_both : (us vs ws : List ResolvedUnit) → ReadsNoFunctions us vs → ReadsNoFunctions vs ws
    → ReadsNoFunctions us ws
no_functions_both us vs ws first then n kept = first n (then n kept)
