-- The calls that are kept of units are those of their functions, whatever else of the units is read.
use Rattle.std.proofs.Common.{◌≡◌, ◌≢◌, ℕ, ◌<◌, Bool, true, false, cond, List, [], ◌∷◌, length, set, get_or, map, slice_get, Option, Some, None, is_some, IfSome, option_map, Result, Ok, Err, OnOk, OnErr, IfOk, refl, sym, ap, ◌∙◌, subst}
use Rattle.std.specs.Prelude.{All, option_and_then}
use Rattle.std.proofs.lemmas.List.Elements.{All-nil, All-cons, All-head, All-tail, All-set, All-get_or}
use Rattle.std.proofs.Math.Seq.{map-set_same}
use Rattle.std.proofs.lemmas.Option.{slice_get-get_or, slice_get-map}
use Rattle.std.proofs.lemmas.List.{length-set, set-get_or}
use Rattle.addr2line_unit.specs.Error.{Error}
use Rattle.addr2line_unit.specs.Error.TheVariants.{Memory}
use Rattle.addr2line_unit.specs.Calls.{Returns, ReturnsOrNoMemory, ReturnsAsOrNoMemory}
use Rattle.addr2line_unit.specs.Results.{and_then}
use Rattle.addr2line_unit.specs.UnitFacts.{UnitFacts}
use Rattle.addr2line_unit.specs.Functions.{functions_of_unit}
use Rattle.addr2line_unit.specs.InlinedCalls.{FunctionCalls, Naming}
use Rattle.addr2line_unit.specs.EntryReferences.{KnownUnits, HoldingUnit}
use Rattle.addr2line_unit.specs.CountedFunctions.{CountedCalls}
use Rattle.addr2line_unit.specs.KeptFunctions.{kept_at, plain_calls, calls_of_none, count_of_functions}
use Rattle.addr2line_unit.specs.ResolvedUnits.{ResolvedUnit, AnsweredUnit, value_of_unit, main_unit, first_answer, unit_of_functions, pending_load, functions_of, calls_of, calls_of_number, IsKeptOf, KeepsCallsOf, with_functions, with_calls, with_probes}
use Rattle.addr2line_unit.proofs.FunctionParses.{calls_with_functions, calls_with_calls, calls_are_read}
use Rattle.addr2line_unit.specs.FirstAnswers.{SplitLoad}
use Rattle.addr2line_unit.specs.ProbedLists.{ProbeCount}
use Rattle.addr2line_unit.specs.ContextNames.{naming_from}
use Rattle.addr2line_lookups.specs.Preloads.{numbered_load, load_at}
use Rattle.addr2line_lookups.specs.KeptCalls.{facts_of, known_among, kept_calls_of, calls_among, HoldsCalls, HoldCalls, LeavesCallsOf, LeavesCalls}
use Rattle.addr2line_lookups.specs.FunctionPlaces.{HasFunction, HasFunctionAt, KeepsCallsAt, count_of_unit, count_at, chain_of_any, chain_of}
use Rattle.addr2line_lookups.proofs.UnitTurns.{set_here as put_here}

-- ---- the units that references may lead to

-- what is known, by its parts
pub known_is : (us : List ResolvedUnit) (s : List UnitFacts) (x : KnownUnits) → x.units ≡ map facts_of us
    → x.supplement_units ≡ s → known_among us s ≡ x
known_is us s x units supplement =
    ap (λ l. record { units = l; supplement_units = s }) (sym units)
    ∙ ap (λ l. record { units = x.units; supplement_units = l }) (sym supplement)

-- ---- one unit

-- how names are found in the unit that has the functions, if there is one
abbrev naming_of : KnownUnits → Result HoldingUnit Error → Naming
naming_of known (Ok holder) = naming_from known holder
naming_of known (Err e) = λ name a. Err e

abbrev naming_in_unit : KnownUnits → AnsweredUnit → Naming
naming_in_unit known v = naming_of known (unit_of_functions (main_unit v) (first_answer v))

calls_under : (known : KnownUnits) (holder : Result HoldingUnit Error) (n : ℕ)
    → and_then holder (λ h.
    and_then (functions_of_unit h.unit) (λ fs. calls_of h.unit (naming_from known h) (slice_get fs n)))
    ≡ and_then holder (λ h.
    and_then (functions_of_unit h.unit) (λ fs. calls_of h.unit (naming_of known holder) (slice_get fs n)))
calls_under known (Ok h) n = refl
calls_under known (Err e) n = refl

-- the calls with those names
calls_by_naming : (known : KnownUnits) (v : AnsweredUnit) (n : ℕ)
    → calls_among known v n ≡ calls_of_number v (naming_in_unit known v) n
calls_by_naming known v n = calls_under known (unit_of_functions (main_unit v) (first_answer v)) n

-- with names found from a unit that has the functions
pub calls_from_holder : (known : KnownUnits) (v : AnsweredUnit) (h : HoldingUnit) (n : ℕ)
    → unit_of_functions (main_unit v) (first_answer v) ≡ Ok h
    → calls_among known v n ≡ calls_of_number v (naming_from known h) n
calls_from_holder known v h n is =
    calls_by_naming known v n
    ∙ ap (λ r. calls_of_number v (naming_of known r) n) is

-- without one it is refused
pub no_calls_from : (known : KnownUnits) (v : AnsweredUnit) (n : ℕ) (e : Error)
    → unit_of_functions (main_unit v) (first_answer v) ≡ Err e → calls_among known v n ≡ Err e
no_calls_from known v n e is =
    ap (λ (r : Result HoldingUnit Error). and_then r (λ h.
    and_then (functions_of_unit h.unit) (λ fs. calls_of h.unit (naming_from known h) (slice_get fs n)))) is

functions_leave : (u : ResolvedUnit) → (with_functions u).value ≡ u.value
functions_leave u = by u.keeps_functions
  where
    by : (b : Bool)
        → (cond b u (record u {
          keeps_functions = true;
          calls = calls_of_none (count_of_functions (functions_of u.value));
        })).value ≡ u.value
    by true = refl
    by false = refl

keeps_them : (u : ResolvedUnit) → (with_functions u).keeps_functions ≡ true
keeps_them u = by u.keeps_functions refl
  where
    by : (b : Bool) → u.keeps_functions ≡ b
        → (cond b u (record u {
          keeps_functions = true;
          calls = calls_of_none (count_of_functions (functions_of u.value));
        })).keeps_functions ≡ true
    by true is = is
    by false is = refl

module _ (known : KnownUnits) where
  to_naming : (u : ResolvedUnit) → HoldsCalls known u → KeepsCallsOf (naming_in_unit known u.value) u
  to_naming u holds n =
      let P : Result FunctionCalls Error → Type 0 = λ r. IsKeptOf r (kept_at u.calls n) in
      subst P (calls_by_naming known u.value n) (holds n)

  from_naming : (u w : ResolvedUnit) → w.value ≡ u.value → KeepsCallsOf (naming_in_unit known u.value) w
      → HoldsCalls known w
  from_naming u w same keeps n =
      let P : Result FunctionCalls Error → Type 0 = λ r. IsKeptOf r (kept_at w.calls n) in
      subst P
      (ap (λ (v : AnsweredUnit). calls_of_number w.value (naming_in_unit known v) n) (sym same)
      ∙ sym (calls_by_naming known w.value n))
      (keeps n)

  -- of a unit with the same value and the same calls
  pub holds_same : (u w : ResolvedUnit) → w.value ≡ u.value → w.calls ≡ u.calls → HoldsCalls known u
      → HoldsCalls known w
  holds_same u w value calls holds n =
      let P : AnsweredUnit → Type 0 = λ v. IsKeptOf (calls_among known v n) (kept_at w.calls n) in
      let Q : List (Option (Result FunctionCalls Error)) → Type 0 =
      λ cs. IsKeptOf (calls_among known u.value n) (kept_at cs n) in
      subst P (sym value) (subst Q (sym calls) (holds n))

  -- after its functions were read
  pub holds_with_functions : (u : ResolvedUnit) → HoldsCalls known u → HoldsCalls known (with_functions u)
  holds_with_functions u holds =
      from_naming u (with_functions u) (functions_leave u)
      (calls_with_functions (naming_in_unit known u.value) u (to_naming u holds))

  -- after calls of one of them were
  pub holds_with_calls : (u : ResolvedUnit) (k : ℕ) (r : Result FunctionCalls Error) → r ≡ calls_among known u.value k
      → HoldsCalls known u → HoldsCalls known (with_calls u k r)
  holds_with_calls u k r is holds =
      from_naming u (with_calls u k r) refl
      (calls_with_calls (naming_in_unit known u.value) u k r (is ∙ calls_by_naming known u.value k)
      (to_naming u holds))

counts_stay : (u : ResolvedUnit) → ((with_functions u).probes ≡ u.probes)
    × ((with_functions u).keeps_lines ≡ u.keeps_lines)
counts_stay u = by u.keeps_functions
  where
    by : (b : Bool)
        → ((cond b u (record u {
          keeps_functions = true;
          calls = calls_of_none (count_of_functions (functions_of u.value));
        })).probes ≡ u.probes)
        × ((cond b u (record u {
          keeps_functions = true;
          calls = calls_of_none (count_of_functions (functions_of u.value));
        })).keeps_lines ≡ u.keeps_lines)
    by true = (refl, refl)
    by false = (refl, refl)

runs_stay : (u : ResolvedUnit) → (with_functions u).runs ≡ u.runs
runs_stay u = by u.keeps_functions
  where
    by : (b : Bool)
        → (cond b u (record u {
          keeps_functions = true;
          calls = calls_of_none (count_of_functions (functions_of u.value));
        })).runs ≡ u.runs
    by true = refl
    by false = refl

-- what functions that were read leave
module _ (u w : ResolvedUnit) (is : w ≡ with_functions u) where
  pub value_left : w.value ≡ u.value
  value_left = ap value_of_unit is ∙ functions_leave u

  pub functions_kept : w.keeps_functions ≡ true
  functions_kept = ap (λ (x : ResolvedUnit). x.keeps_functions) is ∙ keeps_them u

  pub counts_left : (w.probes ≡ u.probes) × (w.keeps_lines ≡ u.keeps_lines)
  counts_left = (
    ap (λ (x : ResolvedUnit). x.probes) is ∙ (counts_stay u).0,
    ap (λ (x : ResolvedUnit). x.keeps_lines) is ∙ (counts_stay u).1,
  )

  pub runs_left : w.runs ≡ u.runs
  runs_left = ap (λ (x : ResolvedUnit). x.runs) is ∙ runs_stay u

  -- also after looks at them
  pub calls_left : (p : ProbeCount) (x : ResolvedUnit) → x ≡ with_probes w p → LeavesCallsOf u x
  calls_left p x after known holds =
      let P : ResolvedUnit → Type 0 = HoldsCalls known in
      holds_same known w x (ap value_of_unit after) (ap kept_calls_of after)
      (subst P (sym is) (holds_with_functions known u holds))

-- ---- the unit of a number among others

-- units of which one is put in its own place
pub same_again : (us : List ResolvedUnit) (n : ℕ) (u : ResolvedUnit) → u ≡ get_or us n u → (new : ResolvedUnit)
    → new ≡ u → set us n new ≡ us
same_again us n u is new same = ap (set us n) (same ∙ is) ∙ set-get_or us n u

module _ (us : List ResolvedUnit) (n : ℕ) (u : ResolvedUnit) (below : n < length us) (is : u ≡ get_or us n u) where
  pub unit_here : slice_get us n ≡ Some u
  unit_here = slice_get-get_or us n u below ∙ ap Some (sym is)

  pub value_here : slice_get (map value_of_unit us) n ≡ Some u.value
  value_here = slice_get-map value_of_unit us n ∙ ap (option_map value_of_unit) unit_here

  -- its load needs no answer
  pub is_decided : load_at (map value_of_unit us) n ≡ None → pending_load u.value ≡ None
  is_decided none =
      by (pending_load u.value)
      (sym (ap (λ o. option_map (numbered_load n) (option_and_then pending_load o)) value_here) ∙ none)
    where
      by : (o : Option SplitLoad) → option_map (numbered_load n) o ≡ None → o ≡ None
      by None h = refl
      by (Some l) h = absurd cc

  -- what holds of it, if it is there
  pub if_here : (P : ResolvedUnit → Type 0) → IfSome (slice_get us n) P → P u
  if_here P h = subst (λ o. IfSome o P) unit_here h

  pub if_there : (P : ResolvedUnit → Type 0) → P u → IfSome (slice_get us n) P
  if_there P h = subst (λ o. IfSome o P) (sym unit_here) h

  pub count_here : count_at us n ≡ length u.calls
  count_here = ap count_of_unit unit_here

  -- it is the same whenever it is looked at
  pub same_unit : (w : ResolvedUnit) → w ≡ get_or us n w → w ≡ u
  same_unit w again =
      let found : Some w ≡ Some u = ap Some again ∙ sym (slice_get-get_or us n w below) ∙ unit_here in cc

  pub holds_here : (known : KnownUnits) → HoldCalls known us → HoldsCalls known u
  holds_here known holds =
      let P : ResolvedUnit → Type 0 = HoldsCalls known in
      subst P (sym is) (All-get_or (HoldsCalls known) us n u below holds.calls)

  -- another in its place
  module _ (new : ResolvedUnit) where
    pub set_here : slice_get (set us n new) n ≡ Some new
    set_here = put_here us n new below

    pub if_set : (P : ResolvedUnit → Type 0) → P new → IfSome (slice_get (set us n new) n) P
    if_set P h = subst (λ o. IfSome o P) (sym set_here) h

    pub holds_set : (known : KnownUnits) → HoldsCalls known new → HoldCalls known us → HoldCalls known (set us n new)
    holds_set known new_holds holds =
        record { calls = All-set (HoldsCalls known) us n new new_holds holds.calls; order = holds.order }

    pub kept_set : (k : ℕ) → is_some (kept_at new.calls k) ≡ true → KeepsCallsAt (set us n new) n k
    kept_set k h = if_set (λ w. is_some (kept_at w.calls k) ≡ true) h

    pub functions_there : (r : Result (Option ℕ) Error) → IfOk r (λ o. IfSome o (λ k. HasFunction k new))
        → IfOk r (λ o. IfSome o (HasFunctionAt (set us n new) n))
    functions_there (Ok (Some k)) h = if_set (HasFunction k) h
    functions_there (Ok None) h = tt
    functions_there (Err e) h = tt

    pub leaves_calls : LeavesCallsOf u new → LeavesCalls us (set us n new)
    leaves_calls leaves known holds = holds_set known (leaves known (holds_here known holds)) holds

    pub chain_set : chain_of (set us n new) n ≡ new.chain
    chain_set = ap chain_of_any set_here

    pub same_chain : new.chain ≡ u.chain → chain_of (set us n new) n ≡ chain_of us n
    same_chain same = chain_set ∙ same ∙ sym (ap chain_of_any unit_here)

    pub same_count : length new.calls ≡ length u.calls → count_at (set us n new) n ≡ count_at us n
    same_count same = ap count_of_unit set_here ∙ same ∙ sym count_here

    pub same_calls : new.calls ≡ u.calls → map kept_calls_of (set us n new) ≡ map kept_calls_of us
    same_calls same = map-set_same kept_calls_of us n new u (same ∙ ap kept_calls_of is)

-- calls that were read for the unit of a number have its counter
module _ (us : List ResolvedUnit) (n : ℕ) (u : ResolvedUnit) (below : n < length us) (is : u ≡ get_or us n u) where
  abbrev IsCountedBy : CountedCalls → ResolvedUnit → Type 0
  IsCountedBy f w = f.counter ≡ w.probes.name

  pub counter_here : (r : Result CountedCalls Error) → IfOk r (λ f. IfSome (slice_get us n) (IsCountedBy f))
      → IfOk r (λ f. IsCountedBy f u)
  counter_here (Ok f) h = if_here us n u below is (IsCountedBy f) h
  counter_here (Err e) h = tt

  pub counter_there : (r : Result CountedCalls Error) → IfOk r (λ f. IsCountedBy f u)
      → IfOk r (λ f. IfSome (slice_get us n) (IsCountedBy f))
  counter_there (Ok f) h = if_there us n u below is (IsCountedBy f) h
  counter_there (Err e) h = tt

-- a number below the count of functions is one of them
pub has_function : (us : List ResolvedUnit) (n k : ℕ) → k < count_at us n → HasFunctionAt us n k
has_function us n k below = by (slice_get us n) below
  where
    by : (o : Option ResolvedUnit) → k < count_of_unit o → IfSome o (HasFunction k)
    by None less = tt
    by (Some u) less = less

-- ---- units with the same values and calls

all_same : (known : KnownUnits) (us vs : List ResolvedUnit) → map value_of_unit vs ≡ map value_of_unit us
    → map kept_calls_of vs ≡ map kept_calls_of us → All (HoldsCalls known) us → All (HoldsCalls known) vs
all_same known [] [] values calls holds = All-nil (HoldsCalls known)
all_same known [] (v ∷ vs) values calls holds = absurd cc
all_same known (u ∷ us) [] values calls holds = absurd cc
all_same known (u ∷ us) (v ∷ vs) values calls holds =
    let value : v.value ≡ u.value = cc in
    let values : map value_of_unit vs ≡ map value_of_unit us = cc in
    let call : v.calls ≡ u.calls = cc in
    let calls : map kept_calls_of vs ≡ map kept_calls_of us = cc in
    All-cons (HoldsCalls known) v vs (holds_same known u v value call (All-head (HoldsCalls known) u us holds))
    (all_same known us vs values calls (All-tail (HoldsCalls known) u us holds))

pub hold_same : (known : KnownUnits) (us vs : List ResolvedUnit) → map value_of_unit vs ≡ map value_of_unit us
    → map kept_calls_of vs ≡ map kept_calls_of us → HoldCalls known us → HoldCalls known vs
hold_same known us vs values calls holds =
    record { calls = all_same known us vs values calls holds.calls; order = holds.order }

-- ---- calls that were read

-- they are kept, unless it was out of memory
module _ (known : KnownUnits) (u new : ResolvedUnit) (k : ℕ) (read : Result CountedCalls Error) where
  pub holds_kept : (r : Result (Unit {0}) Error) → OnOk r (new ≡ with_calls u k (plain_calls read))
      → OnOk r (read ≢ Err Memory) → OnErr r (new ≡ u)
      → ReturnsAsOrNoMemory (λ (c : CountedCalls). c.function) read (calls_among known u.value k)
      → HoldsCalls known u → HoldsCalls known new
  holds_kept (Ok x) is not same h holds =
      let P : ResolvedUnit → Type 0 = HoldsCalls known in
      subst P (sym is)
      (holds_with_calls known u k (plain_calls read) (calls_are_read read (calls_among known u.value k) h not) holds)
  holds_kept (Err e) is not same h holds =
      let P : ResolvedUnit → Type 0 = HoldsCalls known in subst P (sym same) holds

  pub value_kept : (r : Result (Unit {0}) Error) → OnOk r (new ≡ with_calls u k (plain_calls read))
      → OnErr r (new ≡ u) → new.value ≡ u.value
  value_kept (Ok x) is same = ap value_of_unit is
  value_kept (Err e) is same = ap value_of_unit same

  pub length_kept : (r : Result (Unit {0}) Error) → OnOk r (new ≡ with_calls u k (plain_calls read))
      → OnErr r (new ≡ u) → length new.calls ≡ length u.calls
  length_kept (Ok x) is same =
      ap (λ (w : ResolvedUnit). length w.calls) is ∙ length-set u.calls k (Some (plain_calls read))
  length_kept (Err e) is same = ap (λ (w : ResolvedUnit). length w.calls) same

  pub counts_kept : (r : Result (Unit {0}) Error) → OnOk r (new ≡ with_calls u k (plain_calls read))
      → OnErr r (new ≡ u) → (new.probes ≡ u.probes) × (new.keeps_lines ≡ u.keeps_lines)
  counts_kept (Ok x) is same =
      (ap (λ (w : ResolvedUnit). w.probes) is, ap (λ (w : ResolvedUnit). w.keeps_lines) is)
  counts_kept (Err e) is same =
      (ap (λ (w : ResolvedUnit). w.probes) same, ap (λ (w : ResolvedUnit). w.keeps_lines) same)

  pub runs_kept : (r : Result (Unit {0}) Error) → OnOk r (new ≡ with_calls u k (plain_calls read))
      → OnErr r (new ≡ u) → new.runs ≡ u.runs
  runs_kept (Ok x) is same = ap (λ (w : ResolvedUnit). w.runs) is
  runs_kept (Err e) is same = ap (λ (w : ResolvedUnit). w.runs) same

  pub keeps_kept : (r : Result (Unit {0}) Error) → OnOk r (new ≡ with_calls u k (plain_calls read))
      → k < length u.calls → OnOk r (is_some (kept_at new.calls k) ≡ true)
  keeps_kept (Ok x) is below =
      ap (λ (w : ResolvedUnit). is_some (kept_at w.calls k)) is
      ∙ ap (λ o. is_some (option_and_then (λ (y : Option (Result FunctionCalls Error)). y) o))
      (put_here u.calls k (Some (plain_calls read)) below)
  keeps_kept (Err e) is below = tt

-- ---- results

-- what is never out of memory
pub returns_or_none : {A : Type 0} (r meaning : Result A Error) → Returns r meaning → ReturnsOrNoMemory r meaning
returns_or_none (Ok x) meaning h = h
returns_or_none (Err e) meaning h = λ m. h

pub same_there : {A B : Type 0} (f : A → B) (o : Option A) → is_some (option_map f o) ≡ is_some o
same_there f None = refl
same_there f (Some x) = refl

-- something that is kept
pub kept_there : {A B : Type 0} (f : A → B) (o : Option A) (x : Option B) (b : Bool) → option_map f o ≡ x
    → b ≡ is_some o → b ≡ true → is_some x ≡ true
kept_there f o x b is there holds = ap is_some (sym is) ∙ same_there f o ∙ sym there ∙ holds

-- something that isn't
pub not_kept : {A B : Type 0} (f : A → B) (o : Option A) (x : Option B) (b : Bool) → option_map f o ≡ x
    → b ≡ is_some o → b ≡ false → is_some x ≡ true → ⊥
not_kept f o x b is there none kept =
    let never : true ≡ false = sym kept ∙ ap is_some (sym is) ∙ same_there f o ∙ sym there ∙ none in cc
