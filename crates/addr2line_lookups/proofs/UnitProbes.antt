-- Looks at what is kept of units, one change of the units after the other.
use Rattle.std.proofs.Common.{◌≡◌, ◌≢◌, ℕ, ◌+◌, ◌<◌, ◌≤◌, Bool, false, cond, List, [], ◌∷◌, length, set, get_or, Result, Ok, Err, OnOk, refl, sym, ap, ap₂, ◌∙◌, subst, arith}
use Rattle.std.proofs.Math.Seq.{map-set_same}
use Rattle.std.proofs.lemmas.List.Sums.{sum_by-set, sum_by-cons}
use Rattle.addr2line_unit.specs.Error.{Error}
use Rattle.addr2line_unit.specs.UnitRange.{UnitRange}
use Rattle.addr2line_unit.specs.ProbedLists.{ProbeCount}
use Rattle.addr2line_unit.specs.ResolvedUnits.{ResolvedUnit, KeepsLines}
use Rattle.addr2line_lookups.specs.KeptUnits.{KeepsMoreFunctions}
use Rattle.addr2line_lookups.specs.LookupCosts.{counters_of, count_of, AtMostLooksOf, AtMostLooks, probes_among, ranges_until, probes_until}
use Rattle.addr2line_lookups.proofs.KeptFunctionLists.{functions_unchanged, functions_both_of, functions_none, functions_both, functions_put, holds_put}

-- ---- one unit

-- nothing is looked at
pub looks_same : (old new : ResolvedUnit) → new.probes ≡ old.probes → new.runs ≡ old.runs
    → (KeepsLines old → KeepsLines new) → KeepsMoreFunctions old new → AtMostLooksOf 0 old new
looks_same old new same runs more functions = record {
  probes = (ap (λ (p : ProbeCount). p.name) same, omega (arith, ap (λ (p : ProbeCount). p.count) same));
  runs = runs;
  more = more;
  functions = functions;
}

-- it isn't, and no lines are read
pub looks_nowhere : (old new : ResolvedUnit) → new.probes ≡ old.probes → new.runs ≡ old.runs
    → new.keeps_lines ≡ old.keeps_lines → KeepsMoreFunctions old new → AtMostLooksOf 0 old new
looks_nowhere old new same runs lines functions = looks_same old new same runs (λ kept. lines ∙ kept) functions

-- nothing changes
pub looks_unchanged : (n : ℕ) (old new : ResolvedUnit) → new ≡ old → AtMostLooksOf n old new
looks_unchanged n old new same =
    let here : AtMostLooksOf n old old =
    record {
      probes = (refl, omega arith);
      runs = refl;
      more = λ kept. kept;
      functions = functions_unchanged old old refl;
    } in
    subst (AtMostLooksOf n old) (sym same) here

-- one change after the other
pub looks_both_of : (m n : ℕ) (u v w : ResolvedUnit) → AtMostLooksOf m u v → AtMostLooksOf n v w
    → AtMostLooksOf (m + n) u w
looks_both_of m n u v w first then = record {
  probes = (then.probes.0 ∙ first.probes.0, omega (arith, first.probes.1, then.probes.1));
  runs = then.runs ∙ first.runs;
  more = λ kept. then.more (first.more kept);
  functions = functions_both_of u v w first.functions then.functions;
}

-- ---- units

-- nothing changes
pub looks_none : (n : ℕ) (us : List ResolvedUnit) → AtMostLooks n us us
looks_none n us =
    record { counters = refl; probes = omega arith; more = λ number kept. kept; functions = functions_none us }

pub looks_both : (m n : ℕ) (us vs ws : List ResolvedUnit) → AtMostLooks m us vs → AtMostLooks n vs ws
    → AtMostLooks (m + n) us ws
looks_both m n us vs ws first then = record {
  counters = then.counters ∙ first.counters;
  probes = omega (arith, first.probes, then.probes);
  more = λ number kept. then.more number (first.more number kept);
  functions = functions_both us vs ws first.functions then.functions;
}

pub looks_weaker : (m n : ℕ) (us vs : List ResolvedUnit) → m ≤ n → AtMostLooks m us vs → AtMostLooks n us vs
looks_weaker m n us vs less h = record {
  counters = h.counters;
  probes = omega (arith, less, h.probes);
  more = h.more;
  functions = h.functions;
}

-- where nothing was looked at
pub looks_more : (n : ℕ) (us vs : List ResolvedUnit) → AtMostLooks 0 us vs → AtMostLooks n us vs
looks_more n us vs h = looks_weaker 0 n us vs (omega arith) h

-- or wasn't before
pub looks_after : (n : ℕ) (us vs ws : List ResolvedUnit) → AtMostLooks 0 us vs → AtMostLooks n vs ws
    → AtMostLooks n us ws
looks_after n us vs ws first then = looks_weaker (0 + n) n us ws (omega arith) (looks_both 0 n us vs ws first then)

-- ---- the unit of a number

-- it is put back
pub looks_set : (us : List ResolvedUnit) (n : ℕ) (u : ResolvedUnit) → n < length us → u ≡ get_or us n u
    → (new : ResolvedUnit) (m : ℕ) → AtMostLooksOf m u new → AtMostLooks m us (set us n new)
looks_set us n u below is new m h =
    let here : count_of (get_or us n u) ≡ count_of u = ap count_of (sym is) in
    let total = sum_by-set count_of us n new u below in
    let looks : count_of new ≤ count_of u + m = h.probes.1 in
    record {
      counters =
          map-set_same counters_of us n new u
          (ap₂ (λ (p r : ℕ). (p, r)) h.probes.0 h.runs ∙ ap counters_of is);
      probes = omega (arith, total, here, looks);
      more = holds_put KeepsLines us n u new is h.more;
      functions = functions_put us n u new is h.functions;
    }

-- ---- the units of ranges

-- Where units changed from these on for the ranges that are left, they did so for all ranges.
abbrev pub LooksLeft : ℕ → ℕ → List ResolvedUnit → List ResolvedUnit → Type 0
LooksLeft all rest us vs = (ws : List ResolvedUnit) → AtMostLooks rest vs ws → AtMostLooks all us ws

-- before the first
pub looks_begin : (all n : ℕ) (us : List ResolvedUnit) → n ≡ all → LooksLeft all n us us
looks_begin all n us same ws h = looks_weaker n all us ws (omega (arith, same)) h

-- after ranges that need no looks any more
pub looks_begin_after : (all n : ℕ) (us : List ResolvedUnit) → n ≤ all → LooksLeft all n us us
looks_begin_after all n us fewer ws h = looks_weaker n all us ws fewer h

-- where none is left
pub looks_end : (all n : ℕ) (us vs : List ResolvedUnit) → LooksLeft all n us vs → AtMostLooks all us vs
looks_end all n us vs before = before vs (looks_none n vs)

module _ (ends : ℕ → Bool) (probes : ℕ → ℕ) (all : ℕ) (us vs : List ResolvedUnit) where
  module _ (r : UnitRange) (old rest : List UnitRange) (is : old ≡ r ∷ rest)
      (before : LooksLeft all (probes_until ends probes old) us vs) where
    -- those after the first, where this doesn't end the search
    abbrev left_if : Bool → ℕ
    left_if is_last = probes_among probes (cond is_last [] (ranges_until ends rest))

    cost_is : probes_until ends probes old ≡ probes r.unit + left_if (ends r.unit)
    cost_is =
        ap (probes_until ends probes) is
        ∙ sum_by-cons (λ (q : UnitRange). probes q.unit) r (cond (ends r.unit) [] (ranges_until ends rest))

    -- after one of them that doesn't end the search
    pub looks_next : ends r.unit ≡ false → (ws : List ResolvedUnit) → AtMostLooks (probes r.unit) vs ws
        → LooksLeft all (probes_until ends probes rest) us ws
    looks_next goes_on ws here xs h =
        before xs
        (subst (λ n. AtMostLooks n vs xs) (sym (cost_is ∙ ap (λ b. probes r.unit + left_if b) goes_on))
        (looks_both (probes r.unit) (probes_until ends probes rest) vs ws xs here h))

    -- where it is the last that is asked
    pub looks_stop : (ws : List ResolvedUnit) → AtMostLooks (probes r.unit) vs ws → AtMostLooks all us ws
    looks_stop ws here =
        before ws
        (looks_weaker (probes r.unit) (probes_until ends probes old) vs ws (omega (arith, cost_is)) here)

-- ---- results

-- lines that were read are kept, and those that were kept weren't read
pub keeps_still : (r : Result (Unit {0}) Error) (old new : ResolvedUnit) → OnOk r (KeepsLines new)
    → (KeepsLines old → r ≡ Ok tt) → KeepsLines old → KeepsLines new
keeps_still (Ok x) old new kept free before = kept
keeps_still (Err e) old new kept free before = let never = free before in absurd cc

abbrev refusal : (A : Type 0) → Error → Result A Error
refusal A e = Err e

-- what refuses a search refuses the lookup
pub refused_so : (A B : Type 0) (e f : Error) → refusal A e ≢ refusal A f → refusal B e ≢ refusal B f
refused_so A B e f other same = let is : e ≡ f = cc in other (ap (refusal A) is)
