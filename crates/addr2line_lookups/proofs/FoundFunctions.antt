-- The function of an address, found by its number, and its calls by theirs.
use Rattle.std.proofs.Common.{◌≡◌, ℕ, true, List, map, slice_get, Option, Some, None, is_some, option_map, Result, Ok, Err, refl, sym, ap, ◌∙◌, subst}
use Rattle.std.specs.Prelude.{option_and_then}
use Rattle.std.proofs.lemmas.Option.{slice_get-map}
use Rattle.addr2line_unit.specs.Error.{Error}
use Rattle.addr2line_unit.specs.Results.{and_then}
use Rattle.addr2line_unit.specs.Pairs.{Pair}
use Rattle.addr2line_unit.specs.UnitFacts.{UnitFacts, UnitInFile}
use Rattle.addr2line_unit.specs.Functions.{Function, functions_of_unit, range_at, function_at, function_number}
use Rattle.addr2line_unit.specs.InlinedCalls.{FunctionCalls, Naming, calls_of_function, chain_at}
use Rattle.addr2line_unit.specs.Frames.{FunctionAt, function_of_offset_if_any, function_with_calls}
use Rattle.addr2line_unit.specs.EntryReferences.{KnownUnits, HoldingUnit}
use Rattle.addr2line_unit.specs.CallNumbers.{calls_of_numbers}
use Rattle.addr2line_unit.specs.KeptFunctions.{kept_at, function_in, number_in, function_with, function_at_number, FindsChain}
use Rattle.addr2line_unit.specs.ResolvedUnits.{ResolvedUnit, AnsweredUnit, value_of_unit, main_unit, first_answer, unit_of_functions, functions_of, calls_of, IsKeptOf}
use Rattle.addr2line_unit.specs.ContextNames.{naming_from}
use Rattle.addr2line_unit.proofs.NumberedCalls.{numbers_of_calls}
use Rattle.addr2line_unit.proofs.RangeNumbers.{function_of_number}
use Rattle.addr2line_lookups.specs.KeptCalls.{known_among, calls_among, HoldsCalls}
use Rattle.addr2line_lookups.specs.FunctionPlaces.{function_number_at, number_of_any, calls_of_any, function_calls_at, function_of_answered, function_of_any, function_with_calls_at, kept_calls_at, HoldsChain, FindsCalls, HoldsFunction}
use Rattle.addr2line_lookups.proofs.CallsLeft.{known_same}

-- a number that was found, if one was
abbrev pub ok_number : Option ℕ → Result (Option ℕ) Error
ok_number o = Ok o

-- the units' values alone matter
pub same_function_calls : (us ws : List ResolvedUnit) (s : List UnitFacts)
    → map value_of_unit ws ≡ map value_of_unit us → (k n : ℕ)
    → function_calls_at (known_among ws s) (map value_of_unit ws) k n
    ≡ function_calls_at (known_among us s) (map value_of_unit us) k n
same_function_calls us ws s same k n =
    ap (λ known. function_calls_at known (map value_of_unit ws) k n) (known_same us ws same s)
    ∙ ap (λ vs. function_calls_at (known_among us s) vs k n) same

-- ---- one function

no_function : (fs : List Function) (a : ℕ) → function_number fs a ≡ None → function_at fs a ≡ None
no_function fs a none = by (range_at fs a) none
  where
    by : (o : Option (Pair Function)) → option_map (λ (p : Pair Function). p.number) o ≡ None
        → option_map (λ (p : Pair Function). p.unit) o ≡ None
    by None h = refl
    by (Some p) h = absurd cc

-- a function with its calls, or their refusal, or none
abbrev answer_with : Option Function → Result FunctionCalls Error → Result (Option FunctionAt) Error
answer_with None calls = Ok None
answer_with (Some f) (Ok c) = Ok (Some (record { offset = f.offset; calls = c }))
answer_with (Some f) (Err e) = Err e

-- ---- functions of a unit

module _ (u : UnitInFile) (naming : Naming) (a : ℕ) where
  abbrev function_among : Result (List Function) Error → Result (Option FunctionAt) Error
  function_among r = and_then r (λ fs. function_of_offset_if_any (calls_of_function u naming) (function_at fs a))

  abbrev calls_in : Result (List Function) Error → ℕ → Result FunctionCalls Error
  calls_in r k = and_then r (λ fs. calls_of u naming (slice_get fs k))

  refused_in : (r : Result (List Function) Error) (e : Error) → number_in r a ≡ Err e → function_among r ≡ Err e
  refused_in (Ok fs) e h = absurd cc
  refused_in (Err d) e h = let same : d ≡ e = cc in ap Err same

  none_in : (r : Result (List Function) Error) → number_in r a ≡ Ok None → function_among r ≡ Ok None
  none_in (Ok fs) h =
      let none : function_number fs a ≡ None = cc in
      ap (function_of_offset_if_any (calls_of_function u naming)) (no_function fs a none)
  none_in (Err e) h = absurd cc

  answer_of_function : (o : Option Function)
      → function_of_offset_if_any (calls_of_function u naming) o ≡ answer_with o (calls_of u naming o)
  answer_of_function None = refl
  answer_of_function (Some f) = by (calls_of_function u naming f.offset)
    where
      by : (r : Result FunctionCalls Error)
          → and_then (and_then r (λ c. Ok (record { offset = f.offset; calls = c }))) (λ x. Ok (Some x))
          ≡ answer_with (Some f) r
      by (Ok c) = refl
      by (Err e) = refl

  function_here : (r : Result (List Function) Error) (k : ℕ) → number_in r a ≡ Ok (Some k)
      → function_among r ≡ answer_with (function_in r k) (calls_in r k)
  function_here (Ok fs) k h =
      let is : function_number fs a ≡ Some k = cc in
      let same = function_of_number a fs k is in
      ap (function_of_offset_if_any (calls_of_function u naming)) (sym same)
      ∙ answer_of_function (slice_get fs k)
  function_here (Err e) k h = absurd cc

  -- a function has that number
  number_there : (r : Result (List Function) Error) (k : ℕ) → number_in r a ≡ Ok (Some k)
      → is_some (function_in r k) ≡ true
  number_there (Err e) k h = absurd cc
  number_there (Ok fs) k h =
      let is : function_number fs a ≡ Some k = cc in
      ap is_some (function_of_number a fs k is) ∙ by (range_at fs a) is
    where
      by : (o : Option (Pair Function)) → option_map (λ (p : Pair Function). p.number) o ≡ Some k
          → is_some (option_map (λ (p : Pair Function). p.unit) o) ≡ true
      by None none = absurd cc
      by (Some p) some = refl

-- ---- the unit that has the functions

module _ (known : KnownUnits) (a : ℕ) where
  abbrev functions_from : Result HoldingUnit Error → Result (List Function) Error
  functions_from r = and_then r (λ h. functions_of_unit h.unit)

  abbrev function_from : Result HoldingUnit Error → Result (Option FunctionAt) Error
  function_from r = and_then r (λ h. function_with_calls h.unit (naming_from known h) a)

  abbrev calls_from : Result HoldingUnit Error → ℕ → Result FunctionCalls Error
  calls_from r k =
      and_then r (λ h.
      and_then (functions_of_unit h.unit) (λ fs. calls_of h.unit (naming_from known h) (slice_get fs k)))

  refused_from : (r : Result HoldingUnit Error) (e : Error) → number_in (functions_from r) a ≡ Err e
      → function_from r ≡ Err e
  refused_from (Ok h) e is = refused_in h.unit (naming_from known h) a (functions_of_unit h.unit) e is
  refused_from (Err d) e is = let same : d ≡ e = cc in ap Err same

  none_from : (r : Result HoldingUnit Error) → number_in (functions_from r) a ≡ Ok None → function_from r ≡ Ok None
  none_from (Ok h) is = none_in h.unit (naming_from known h) a (functions_of_unit h.unit) is
  none_from (Err d) is = absurd cc

  here_from : (r : Result HoldingUnit Error) (k : ℕ) → number_in (functions_from r) a ≡ Ok (Some k)
      → function_from r ≡ answer_with (function_in (functions_from r) k) (calls_from r k)
  here_from (Ok h) k is = function_here h.unit (naming_from known h) a (functions_of_unit h.unit) k is
  here_from (Err d) k is = absurd cc

  there_from : (r : Result HoldingUnit Error) (k : ℕ) → number_in (functions_from r) a ≡ Ok (Some k)
      → is_some (function_in (functions_from r) k) ≡ true
  there_from (Ok h) k is = number_there h.unit (naming_from known h) a (functions_of_unit h.unit) k is
  there_from (Err d) k is = absurd cc

  -- ---- one unit

  module _ (v : AnsweredUnit) where
    abbrev holder_of : Result HoldingUnit Error
    holder_of = unit_of_functions (main_unit v) (first_answer v)

    -- refused calls refuse the function
    calls_refuse : (k : ℕ) (e : Error) → number_in (functions_of v) a ≡ Ok (Some k) → calls_among known v k ≡ Err e
        → function_of_answered known a v ≡ Err e
    calls_refuse k e is h =
        here_from holder_of k is ∙ ap (answer_with (function_in (functions_of v) k)) h
        ∙ by (function_in (functions_of v) k) (there_from holder_of k is)
      where
        by : (o : Option Function) → is_some o ≡ true → answer_with o (Err e) ≡ Err e
        by None none = absurd cc
        by (Some f) some = refl

    -- calls that are kept are those of the function
    record IsKeptFunction (k : ℕ) (c : FunctionCalls) (kept : List (Option (Result FunctionCalls Error)))
        : Type 0 where
      function : FunctionAt
      is_kept : function_at_number (functions_of v) kept k ≡ Some (Ok function)
      is_answer : function_of_answered known a v ≡ Ok (Some function)
      calls_are : function.calls ≡ c

    function_kept : (k : ℕ) (c : FunctionCalls) (kept : List (Option (Result FunctionCalls Error)))
        → number_in (functions_of v) a ≡ Ok (Some k) → calls_among known v k ≡ Ok c → kept_at kept k ≡ Some (Ok c)
        → IsKeptFunction k c kept
    function_kept k c kept is h k_is =
        by (function_in (functions_of v) k) refl (there_from holder_of k is)
      where
        by : (o : Option Function) → function_in (functions_of v) k ≡ o → is_some o ≡ true → IsKeptFunction k c kept
        by None none there = absurd cc
        by (Some f) some there = record {
          function = record { offset = f.offset; calls = c };
          is_kept =
              ap (option_and_then (λ (g : Function). option_map (function_with g.offset) (kept_at kept k))) some
              ∙ ap (option_map (function_with f.offset)) k_is;
          is_answer =
              here_from holder_of k is ∙ ap (λ o. answer_with o (calls_among known v k)) some
              ∙ ap (answer_with (Some f)) h;
          calls_are = refl;
        }

-- ---- the unit of a number

module _ (known : KnownUnits) (a n : ℕ) where
  number_refuses : (o : Option AnsweredUnit) (e : Error) → number_of_any a o ≡ Err e
      → function_of_any known a o ≡ Err e
  number_refuses None e h = absurd cc
  number_refuses (Some v) e h = refused_from known a (holder_of known a v) e h

  no_number : (o : Option AnsweredUnit) → number_of_any a o ≡ Ok None → function_of_any known a o ≡ Ok None
  no_number None h = refl
  no_number (Some v) h = none_from known a (holder_of known a v) h

  refuse : (o : Option AnsweredUnit) (k : ℕ) (e : Error) → number_of_any a o ≡ Ok (Some k)
      → calls_of_any known k o ≡ Err e → function_of_any known a o ≡ Err e
  refuse None k e h r = absurd cc
  refuse (Some v) k e h r = calls_refuse known a v k e h r

  module _ (vs : List AnsweredUnit) where
    -- refused functions
    pub refused_functions : (e : Error) → function_number_at vs a n ≡ Err e
        → function_with_calls_at known vs a n ≡ Err e
    refused_functions e h = number_refuses (slice_get vs n) e h

    -- none holds the address
    pub none_there : function_number_at vs a n ≡ Ok None → function_with_calls_at known vs a n ≡ Ok None
    none_there h = no_number (slice_get vs n) h

    -- refused calls of the one that does
    pub refused_calls : (k : ℕ) (e : Error) → function_number_at vs a n ≡ Ok (Some k)
        → function_calls_at known vs k n ≡ Err e → function_with_calls_at known vs a n ≡ Err e
    refused_calls k e h r = refuse (slice_get vs n) k e h r

  -- its calls that the address is in
  found_by : (us : List ResolvedUnit) (k : ℕ) (chain : List ℕ) (o : Option ResolvedUnit) → slice_get us n ≡ o
      → number_of_any a (option_map value_of_unit o) ≡ Ok (Some k)
      → HoldsChain us n k a (calls_of_any known k (option_map value_of_unit o)) chain
      → HoldsFunction us n k a (function_of_any known a (option_map value_of_unit o)) chain
  found_by us k chain None at h holds = absurd cc
  found_by us k chain (Some u) at h holds =
      let c = holds.calls in
      let kept : kept_at u.calls k ≡ Some (Ok c) =
      ap (option_and_then (λ (w : ResolvedUnit). kept_at w.calls k)) (sym at) ∙ holds.are_kept in
      let f = function_kept known a u.value k c u.calls h holds.are_answer kept in
      record {
        function = f.function;
        is_kept =
            ap (option_and_then (λ (w : ResolvedUnit). function_at_number (functions_of w.value) w.calls k)) at
            ∙ f.is_kept;
        is_answer = f.is_answer;
        chain_is =
            ap (λ (x : FunctionCalls). calls_of_numbers x.calls chain) f.calls_are ∙ holds.chain_is
            ∙ ap (λ (x : FunctionCalls). chain_at x.calls a) (sym f.calls_are);
      }

  pub function_found : (us : List ResolvedUnit) (vs : List AnsweredUnit) (k : ℕ) (chain : List ℕ)
      → map value_of_unit us ≡ vs → function_number_at vs a n ≡ Ok (Some k)
      → HoldsChain us n k a (function_calls_at known vs k n) chain
      → HoldsFunction us n k a (function_with_calls_at known vs a n) chain
  function_found us vs k chain same h holds =
      let at : slice_get vs n ≡ option_map value_of_unit (slice_get us n) =
      ap (λ xs. slice_get xs n) (sym same) ∙ slice_get-map value_of_unit us n in
      let P : Option AnsweredUnit → Type 0 =
      λ o. HoldsFunction us n k a (function_of_any known a o) chain in
      let Q : Option AnsweredUnit → Type 0 = λ o. HoldsChain us n k a (calls_of_any known k o) chain in
      subst P (sym at)
      (found_by us k chain (slice_get us n) refl (ap (number_of_any a) (sym at) ∙ h) (subst Q at holds))

-- ---- calls of one function

-- numbers that were found among calls that are kept
chain_by : (us : List ResolvedUnit) (n k a : ℕ) (answer : Result FunctionCalls Error) (r : Result (Unit {0}) Error)
    (chain : List ℕ) → kept_calls_at us n k ≡ Some answer → FindsChain (λ done. chain) (Some answer) a r
    → FindsCalls us n k a answer r chain
chain_by us n k a (Err e) (Ok x) chain kept h = absurd cc
chain_by us n k a (Err e) (Err d) chain kept h = λ m. let same : d ≡ e = cc in ap Err (sym same)
chain_by us n k a (Ok c) (Ok x) chain kept h = record {
  calls = c;
  are_kept = kept;
  are_answer = refl;
  chain_is =
      let each : map Some (chain_at c.calls a) ≡ map (slice_get c.calls) chain = cc in
      numbers_of_calls c.calls (chain_at c.calls a) chain (sym each);
}
chain_by us n k a (Ok c) (Err e) chain kept h = λ m. absurd (no_refusal (h m))
  where
    no_refusal : {A : Type 0} {x : A} → Ok x ≡ Err e → ⊥
    no_refusal is = cc

-- calls that are kept are those of the function
pub kept_is : (known : KnownUnits) (u : ResolvedUnit) (k : ℕ) → HoldsCalls known u → is_some (kept_at u.calls k) ≡ true
    → kept_at u.calls k ≡ Some (calls_among known u.value k)
kept_is known u k holds is = by (kept_at u.calls k) (holds k) is
  where
    by : (o : Option (Result FunctionCalls Error)) → IsKeptOf (calls_among known u.value k) o → is_some o ≡ true
        → o ≡ Some (calls_among known u.value k)
    by None h none = absurd cc
    by (Some r) h some = ap Some h

pub calls_found : (known : KnownUnits) (us : List ResolvedUnit) (n k a : ℕ) (u : ResolvedUnit)
    (vs : List AnsweredUnit) (r : Result (Unit {0}) Error) (chain : List ℕ) → slice_get us n ≡ Some u
    → slice_get vs n ≡ Some u.value → HoldsCalls known u → is_some (kept_at u.calls k) ≡ true
    → FindsChain (λ done. chain) (kept_at u.calls k) a r
    → FindsCalls us n k a (function_calls_at known vs k n) r chain
calls_found known us n k a u vs r chain at value holds is h =
    let kept = kept_is known u k holds is in
    let P : Option (Result FunctionCalls Error) → Type 0 = λ o. FindsChain (λ done. chain) o a r in
    let Q : Result FunctionCalls Error → Type 0 = λ m. FindsCalls us n k a m r chain in
    subst Q (ap (calls_of_any known k) (sym value))
    (chain_by us n k a (calls_among known u.value k) r chain
    (ap (option_and_then (λ (w : ResolvedUnit). kept_at w.calls k)) at ∙ kept) (subst P kept h))
