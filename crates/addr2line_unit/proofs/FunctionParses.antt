-- What is kept of a unit's functions and calls is what the definitions say.
use Rattle.std.proofs.Common.{◌≡◌, ◌≢◌, ℕ, zero, suc, ◌<◌, Bool, true, false, cond, List, [], ◌∷◌, length, map, set, slice_get, Option, Some, None, is_some, option_map, Result, Ok, Err, IfOk, IfSome, OnOk, OnErr, refl, sym, ap, ◌∙◌, subst, arith}
use Rattle.std.specs.Prelude.{option_and_then}
use Rattle.std.proofs.lemmas.List.{length-replicate, length-set, map-set}
use Rattle.std.proofs.lemmas.Option.{slice_get-map, slice_get_within}
use Rattle.addr2line_functions.specs.Error.{Error}
use Rattle.addr2line_functions.specs.Error.TheVariants.{Memory}
use Rattle.addr2line_functions.specs.Calls.{Returns, ReturnsAsOrNoMemory}
use Rattle.addr2line_functions.specs.Results.{and_then}
use Rattle.addr2line_functions.specs.UnitFacts.{UnitInFile}
use Rattle.addr2line_functions.specs.Pairs.{Pair}
use Rattle.addr2line_functions.specs.Functions.{Function, functions_of_unit, range_at, function_number}
use Rattle.addr2line_functions.specs.InlinedCalls.{FunctionCalls, Naming, calls_of_function}
use Rattle.addr2line_functions.specs.EntryReferences.{HoldingUnit}
use Rattle.addr2line_functions.specs.FirstAnswers.{SplitLoad, FirstAnswer, load_of}
use Rattle.addr2line_functions.specs.CountedFunctions.{CountedFunctions, CountedCalls}
use Rattle.addr2line_functions.proofs.RangeNumbers.{function_of_number}
use Rattle.addr2line_root.specs.ProbedLists.{ProbeCount}
use Rattle.addr2line_root.specs.Searches.{AtMostProbes}
use Rattle.addr2line_unit.specs.KeptFunctions.{KeptFunctions, nothing_kept, IfKept, kept_at, function_in, number_in, number_probes, kept_number, kept_number_probes, kept_function_in, plain_functions, plain_calls, count_of_functions, function_count, calls_of_none, functions_read, calls_read, function_with, kept_function, function_at_number}
use Rattle.addr2line_unit.specs.ResolvedUnits.{undecided, decided, functions_under, calls_of, calls_of_number, functions_of, with_functions, with_calls, IsKeptOf, if_kept, AreFunctionsOf, KeepsFunctions, KeepsCallsOf, ResolvedUnit}

-- ---- by numbers

pub kept_at-map : {A B : Type 0} (f : A → B) (xs : List (Option A)) (n : ℕ)
    → kept_at (map (option_map f) xs) n ≡ option_map f (kept_at xs n)
kept_at-map {A = A} f xs n = ap (option_and_then (λ x. x)) (slice_get-map (option_map f) xs n) ∙ by (slice_get xs n)
  where
    by : (o : Option (Option A))
        → option_and_then (λ x. x) (option_map (option_map f) o) ≡ option_map f (option_and_then (λ x. x) o)
    by None = refl
    by (Some x) = refl

none_at : {A : Type 0} (n m : ℕ) → kept_at (calls_of_none {A = A} n) m ≡ None
none_at zero m = refl
none_at (suc n) zero = refl
none_at (suc n) (suc m) = none_at n m

none_in : {A : Type 0} (xs : List (Option A)) (m : ℕ) → length xs ≡ 0 → kept_at xs m ≡ None
none_in [] m h = refl
none_in (x ∷ xs) m h = absurd (omega arith)

set_at : {A : Type 0} (Q : Option A → Type 0) (xs : List (Option A)) (n m : ℕ) (x : Option A) → Q x
    → Q (kept_at xs m) → Q (kept_at (set xs n x) m)
set_at Q [] n m x h k = k
set_at Q (y ∷ ys) zero zero x h k = h
set_at Q (y ∷ ys) zero (suc m) x h k = k
set_at Q (y ∷ ys) (suc n) zero x h k = k
set_at Q (y ∷ ys) (suc n) (suc m) x h k = set_at Q ys n m x h k

-- of the number that was set, or of another
set_number : {A : Type 0} (Q : ℕ → Option A → Type 0) (xs : List (Option A)) (n m : ℕ) (x : A) → Q n (Some x)
    → Q m (kept_at xs m) → Q m (kept_at (set xs n (Some x)) m)
set_number Q [] n m x h k = k
set_number Q (y ∷ ys) zero zero x h k = h
set_number Q (y ∷ ys) zero (suc m) x h k = k
set_number Q (y ∷ ys) (suc n) zero x h k = k
set_number Q (y ∷ ys) (suc n) (suc m) x h k = set_number (λ i o. Q (suc i) o) ys n m x h k

-- ---- what reading gave

-- functions, if it isn't out of memory
pub functions_are_read : (read : Result CountedFunctions Error) (meaning : Result (List Function) Error)
    → ReturnsAsOrNoMemory (λ (f : CountedFunctions). f.functions) read meaning → read ≢ Err Memory
    → plain_functions read ≡ meaning
functions_are_read (Ok f) meaning h not = sym h
functions_are_read (Err e) meaning h not = sym (h (λ is. not (ap Err is)))

-- and calls
pub calls_are_read : (read : Result CountedCalls Error) (meaning : Result FunctionCalls Error)
    → ReturnsAsOrNoMemory (λ (c : CountedCalls). c.function) read meaning → read ≢ Err Memory
    → plain_calls read ≡ meaning
calls_are_read (Ok c) meaning h not = sym h
calls_are_read (Err e) meaning h not = sym (h (λ is. not (ap Err is)))

functions_counted : (counter : ℕ) (read : Result CountedFunctions Error) → IfOk read (λ f. f.counter ≡ counter)
    → IfKept (Some read) (λ f. counter ≡ f.counter)
functions_counted counter (Ok f) h = sym h
functions_counted counter (Err e) h = tt

calls_counted : (counter : ℕ) (read : Result CountedCalls Error) → IfOk read (λ c. c.counter ≡ counter)
    → IfKept (Some read) (λ c. counter ≡ c.counter)
calls_counted counter (Ok c) h = sym h
calls_counted counter (Err e) h = tt

-- ---- under the first answer

no_functions : (u : UnitInFile) (load : Result (Option SplitLoad) Error) (first : Option FirstAnswer)
    → AreFunctionsOf u load first None
no_functions u (Ok (Some load)) None = refl
no_functions u (Ok (Some load)) (Some first) = tt
no_functions u (Ok None) first = tt
no_functions u (Err e) first = tt

after_answer : (u : UnitInFile) (load : Result (Option SplitLoad) Error) (first : Option FirstAnswer)
    (later : FirstAnswer) (functions : Option (Result (List Function) Error)) → is_some (undecided load first) ≡ true
    → AreFunctionsOf u load first functions → AreFunctionsOf u load (Some later) functions
after_answer u (Ok (Some load)) None later functions waits h =
    subst (IsKeptOf (functions_under u later)) (sym h) tt
after_answer u (Ok (Some load)) (Some first) later functions waits h = cc
after_answer u (Ok None) first later functions waits h = h
after_answer u (Err e) first later functions waits h = h

-- those of a decided unit are those under its first answer
when_decided : (u : UnitInFile) (load : Result (Option SplitLoad) Error) (first : Option FirstAnswer)
    (functions : Option (Result (List Function) Error)) → undecided load first ≡ None
    → IsKeptOf (functions_under u (decided load first)) functions → AreFunctionsOf u load first functions
when_decided u (Ok (Some load)) None functions is_decided h = cc
when_decided u (Ok (Some load)) (Some first) functions is_decided h = h
when_decided u (Ok None) first functions is_decided h = h
when_decided u (Err e) first functions is_decided h = h

functions_kept : (u : UnitInFile) (load : Result (Option SplitLoad) Error) (first : Option FirstAnswer)
    (functions : Option (Result (List Function) Error)) → AreFunctionsOf u load first functions
    → IsKeptOf (functions_under u (decided load first)) functions
functions_kept u (Ok (Some load)) None functions h = subst (IsKeptOf (functions_under u (Ok None))) (sym h) tt
functions_kept u (Ok (Some load)) (Some first) functions h = h
functions_kept u (Ok None) first functions h = h
functions_kept u (Err e) first functions h = h

-- nothing is kept of a unit whose load is pending
none_pending : (u : UnitInFile) (load : Result (Option SplitLoad) Error) (first : Option FirstAnswer)
    (functions : Option (Result (List Function) Error)) → is_some (undecided load first) ≡ true
    → AreFunctionsOf u load first functions → functions ≡ None
none_pending u (Ok (Some load)) None functions waits h = h
none_pending u (Ok (Some load)) (Some first) functions waits h = cc
none_pending u (Ok None) first functions waits h = cc
none_pending u (Err e) first functions waits h = cc

empty_of : {A : Type 0} (xs : List A) → length xs ≡ 0 → xs ≡ []
empty_of [] h = refl
empty_of (x ∷ xs) h = absurd (omega arith)

-- ---- a unit's

module _ (u : UnitInFile) (load : Result (Option SplitLoad) Error) where
  -- of a unit that was made just now
  pub keeps_nothing : (first : Option FirstAnswer) (k : KeptFunctions) (counter : ℕ) → k ≡ nothing_kept
      → KeepsFunctions u load first k counter
  keeps_nothing first k counter is =
      let P : KeptFunctions → Type 0 = λ x. KeepsFunctions u load first x counter in
      subst P (sym is) (record {
        functions_are = no_functions u load first;
        count_is = refl;
        are_counted = record { functions = tt; calls = λ n. tt };
      })

  -- before it nothing is kept
  pub nothing_pending : (first : Option FirstAnswer) (k : KeptFunctions) (counter : ℕ)
      → is_some (undecided load first) ≡ true → KeepsFunctions u load first k counter
      → (is_some k.functions ≡ false) × (map (option_map plain_calls) k.calls ≡ [])
  nothing_pending first k counter waits keeps =
      by k.functions
      (none_pending u load first (option_map plain_functions k.functions) waits keeps.functions_are) keeps.count_is
    where
      by : (o : Option (Result CountedFunctions Error)) → option_map plain_functions o ≡ None
          → length k.calls ≡ function_count o
          → (is_some o ≡ false) × (map (option_map plain_calls) k.calls ≡ [])
      by None none count = (refl, ap (map (option_map plain_calls)) (empty_of k.calls count))
      by (Some r) none count = absurd cc

  -- with its functions
  pub keeps_read : (first : Option FirstAnswer) (k : KeptFunctions) (counter : ℕ) (read : Result CountedFunctions Error)
      → k ≡ functions_read read → undecided load first ≡ None
      → ReturnsAsOrNoMemory (λ (f : CountedFunctions). f.functions) read (functions_under u (decided load first))
      → read ≢ Err Memory → IfOk read (λ f. f.counter ≡ counter) → KeepsFunctions u load first k counter
  keeps_read first k counter read is is_decided h not counted =
      let P : KeptFunctions → Type 0 = λ x. KeepsFunctions u load first x counter in
      let count = function_count (Some read) in
      let Q : Option (Result CountedCalls Error) → Type 0 = λ x. IfKept x (λ c. counter ≡ c.counter) in
      subst P (sym is) (record {
        functions_are =
            when_decided u load first (Some (plain_functions read)) is_decided
            (functions_are_read read (functions_under u (decided load first)) h not);
        count_is = length-replicate count None;
        are_counted = record {
          functions = functions_counted counter read counted;
          calls = λ n. subst Q (sym (none_at count n)) tt;
        };
      })

  -- the same after a call that keeps them, unless it is out of memory
  pub keeps_read_after : (first : Option FirstAnswer) (old new : KeptFunctions) (counter : ℕ)
      (read : Result CountedFunctions Error) (r : Result (Unit {0}) Error) → OnOk r (new ≡ functions_read read)
      → OnOk r (read ≢ Err Memory) → OnErr r (new ≡ old) → undecided load first ≡ None
      → ReturnsAsOrNoMemory (λ (f : CountedFunctions). f.functions) read (functions_under u (decided load first))
      → IfOk read (λ f. f.counter ≡ counter) → KeepsFunctions u load first old counter
      → KeepsFunctions u load first new counter
  keeps_read_after first old new counter read (Ok x) is not same is_decided h counted before =
      keeps_read first new counter read is is_decided h not counted
  keeps_read_after first old new counter read (Err e) is not same is_decided h counted before =
      let P : KeptFunctions → Type 0 = λ k. KeepsFunctions u load first k counter in subst P (sym same) before

  -- with the calls of one
  pub keeps_calls : (first : Option FirstAnswer) (old new : KeptFunctions) (counter number : ℕ)
      (read : Result CountedCalls Error) → new ≡ calls_read old number read
      → IfOk read (λ c. c.counter ≡ counter) → KeepsFunctions u load first old counter
      → KeepsFunctions u load first new counter
  keeps_calls first old new counter number read is counted before =
      let P : KeptFunctions → Type 0 = λ x. KeepsFunctions u load first x counter in
      let Q : Option (Result CountedCalls Error) → Type 0 = λ x. IfKept x (λ c. counter ≡ c.counter) in
      subst P (sym is) (record {
        functions_are = before.functions_are;
        count_is = length-set old.calls number (Some read) ∙ before.count_is;
        are_counted = record {
          functions = before.are_counted.functions;
          calls =
              λ n. set_at Q old.calls number n (Some read) (calls_counted counter read counted)
              (before.are_counted.calls n);
        };
      })

  pub keeps_calls_after : (first : Option FirstAnswer) (old new : KeptFunctions) (counter number : ℕ)
      (read : Result CountedCalls Error) (r : Result (Unit {0}) Error) → OnOk r (new ≡ calls_read old number read)
      → OnErr r (new ≡ old) → IfOk read (λ c. c.counter ≡ counter) → KeepsFunctions u load first old counter
      → KeepsFunctions u load first new counter
  keeps_calls_after first old new counter number read (Ok x) is same counted before =
      keeps_calls first old new counter number read is counted before
  keeps_calls_after first old new counter number read (Err e) is same counted before =
      let P : KeptFunctions → Type 0 = λ k. KeepsFunctions u load first k counter in subst P (sym same) before

  -- what is kept is what its functions are
  pub kept_are : (first : Option FirstAnswer) (k : KeptFunctions) (counter : ℕ) → load ≡ load_of u
      → KeepsFunctions u load first k counter
      → IsKeptOf (functions_under u (decided (load_of u) first)) (option_map plain_functions k.functions)
  kept_are first k counter is keeps =
      let P : Result (Option SplitLoad) Error → Type 0 =
      λ l. IsKeptOf (functions_under u (decided l first)) (option_map plain_functions k.functions) in
      subst P is (functions_kept u load first (option_map plain_functions k.functions) keeps.functions_are)

-- ---- what is found in it

-- the functions, if they are kept
pub kept_functions_are : (o : Option (Result CountedFunctions Error)) (meaning : Result (List Function) Error)
    → IsKeptOf meaning (option_map plain_functions o) → option_map plain_functions o ≡ if_kept (is_some o) meaning
kept_functions_are None meaning is = refl
kept_functions_are (Some r) meaning is = ap Some is

-- the number of a function
pub number_is : (o : Option (Result CountedFunctions Error)) (meaning : Result (List Function) Error) (a : ℕ)
    → IsKeptOf meaning (option_map plain_functions o) → is_some o ≡ true → kept_number o a ≡ number_in meaning a
number_is None meaning a is kept = absurd cc
number_is (Some r) meaning a is kept = ap (λ m. number_in m a) is

-- the looks for it
pub number_looks : (o : Option (Result CountedFunctions Error)) (meaning : Result (List Function) Error)
    (old new : ProbeCount)
    → IsKeptOf meaning (option_map plain_functions o) → AtMostProbes (kept_number_probes o) old new
    → AtMostProbes (number_probes meaning) old new
number_looks None meaning old new is most = (most.0, omega (arith, most.1))
number_looks (Some r) meaning old new is most = let P : Result (List Function) Error → Type 0 =
    λ m. AtMostProbes (number_probes m) old new in subst P is most

-- it is that of a function
number_within : (fs : List Function) (a n : ℕ) → function_number fs a ≡ Some n → n < length fs
number_within fs a n e = by (range_at fs a) refl e
  where
    by : (o : Option (Pair Function)) → range_at fs a ≡ o → option_map (λ (p : Pair Function). p.number) o ≡ Some n
        → n < length fs
    by None is none = absurd cc
    by (Some p) is some =
        slice_get_within fs n p.unit
        (function_of_number a fs n e ∙ ap (option_map (λ (q : Pair Function). q.unit)) is)

pub number_below : (k : KeptFunctions) (a : ℕ) (r : Result (Option ℕ) Error) → Returns r (kept_number k.functions a)
    → length k.calls ≡ function_count k.functions → IfOk r (λ o. IfSome o (λ n. n < length k.calls))
number_below k a (Err e) h count = tt
number_below k a (Ok None) h count = tt
number_below k a (Ok (Some n)) h count = by k.functions h count
  where
    by : (o : Option (Result CountedFunctions Error)) → kept_number o a ≡ Ok (Some n)
        → length k.calls ≡ function_count o → n < length k.calls
    by None h count = absurd cc
    by (Some (Err e)) h count = absurd cc
    by (Some (Ok f)) h count =
        let is : function_number f.functions a ≡ Some n = cc in
        let below = number_within f.functions a n is in
        omega (arith, below, count)

-- how many functions there are
pub count_is : (k : KeptFunctions) (meaning : Result (List Function) Error)
    → IsKeptOf meaning (option_map plain_functions k.functions) → length k.calls ≡ function_count k.functions
    → is_some k.functions ≡ true → length k.calls ≡ count_of_functions meaning
count_is k meaning is count kept = by k.functions is count kept
  where
    by : (o : Option (Result CountedFunctions Error)) → IsKeptOf meaning (option_map plain_functions o)
        → length k.calls ≡ function_count o → is_some o ≡ true → length k.calls ≡ count_of_functions meaning
    by None is count kept = absurd cc
    by (Some r) is count kept = count ∙ ap count_of_functions is

-- a function with its calls
pub function_is : (k : KeptFunctions) (meaning : Result (List Function) Error) (n : ℕ)
    → IsKeptOf meaning (option_map plain_functions k.functions) → length k.calls ≡ function_count k.functions
    → kept_function k n ≡ function_at_number meaning (map (option_map plain_calls) k.calls) n
function_is k meaning n is count = by k.functions is count
  where
    with_calls_at : (o : Option Function)
        → option_and_then
        (λ (f : Function). option_map (λ c. function_with f.offset (plain_calls c)) (kept_at k.calls n)) o
        ≡ option_and_then
        (λ (f : Function).
        option_map (function_with f.offset) (kept_at (map (option_map plain_calls) k.calls) n)) o
    with_calls_at None = refl
    with_calls_at (Some f) =
        two (kept_at k.calls n)
        ∙ ap (option_map (function_with f.offset)) (sym (kept_at-map plain_calls k.calls n))
      where
        two : (o : Option (Result CountedCalls Error))
            → option_map (λ c. function_with f.offset (plain_calls c)) o
            ≡ option_map (function_with f.offset) (option_map plain_calls o)
        two None = refl
        two (Some c) = refl

    without_calls : (o : Option Function) → kept_at k.calls n ≡ None
        → None ≡ option_and_then
        (λ (f : Function). option_map (function_with f.offset) (kept_at (map (option_map plain_calls) k.calls) n)) o
    without_calls None none = refl
    without_calls (Some f) none =
        ap (option_map (function_with f.offset))
        (sym (kept_at-map plain_calls k.calls n ∙ ap (option_map plain_calls) none))

    by : (o : Option (Result CountedFunctions Error)) → IsKeptOf meaning (option_map plain_functions o)
        → length k.calls ≡ function_count o
        → option_and_then
        (λ (f : Function). option_map (λ c. function_with f.offset (plain_calls c)) (kept_at k.calls n))
        (kept_function_in o n)
        ≡ function_at_number meaning (map (option_map plain_calls) k.calls) n
    by None is count = without_calls (function_in meaning n) (none_in k.calls n count)
    by (Some r) is count =
        with_calls_at (function_in (plain_functions r) n)
        ∙ ap (λ m. function_at_number m (map (option_map plain_calls) k.calls) n) is

-- the calls of a function of a number
pub calls_are : (k : KeptFunctions) (naming : Naming) (number : ℕ) (h : HoldingUnit) (unit : Result HoldingUnit Error)
    → unit ≡ Ok h → IsKeptOf (and_then unit (λ x. functions_of_unit x.unit)) (option_map plain_functions k.functions)
    → length k.calls ≡ function_count k.functions → number < length k.calls
    → and_then unit (λ x. and_then (functions_of_unit x.unit) (λ fs. calls_of x.unit naming (slice_get fs number)))
    ≡ calls_of h.unit naming (kept_function_in k.functions number)
calls_are k naming number h unit is kept count below = by k.functions kept count
  where
    by : (f : Option (Result CountedFunctions Error))
        → IsKeptOf (and_then unit (λ x. functions_of_unit x.unit)) (option_map plain_functions f)
        → length k.calls ≡ function_count f
        → and_then unit (λ x. and_then (functions_of_unit x.unit) (λ fs. calls_of x.unit naming (slice_get fs number)))
        ≡ calls_of h.unit naming (kept_function_in f number)
    by None kept count = absurd (omega arith)
    by (Some (Err e)) kept count = absurd (omega arith)
    by (Some (Ok f)) kept count =
        ap (λ r.
        and_then r (λ x. and_then (functions_of_unit x.unit) (λ fs. calls_of x.unit naming (slice_get fs number)))) is
        ∙ ap (λ r. and_then r (λ fs. calls_of h.unit naming (slice_get fs number)))
        (sym (kept ∙ ap (λ r. and_then r (λ x. functions_of_unit x.unit)) is))

-- by the offset of its entry
pub calls_at_offset : (o : UnitInFile) (naming : Naming) (f : Option Function) (offset : ℕ)
    → Some offset ≡ option_map (λ (x : Function). x.offset) f → calls_of o naming f ≡ calls_of_function o naming offset
calls_at_offset o naming None offset h = absurd cc
calls_at_offset o naming (Some f) offset h =
    let same : offset ≡ f.offset = cc in ap (calls_of_function o naming) (sym same)

-- with the calls of one, without their counters
pub plain_calls_read : (k : KeptFunctions) (number : ℕ) (read : Result CountedCalls Error)
    → map (option_map plain_calls) (calls_read k number read).calls
    ≡ set (map (option_map plain_calls) k.calls) number (Some (plain_calls read))
plain_calls_read k number read = map-set (option_map plain_calls) k.calls number (Some read)

-- of none
pub plain_calls_of_none : (n : ℕ) → map (option_map plain_calls) (calls_of_none n) ≡ calls_of_none n
plain_calls_of_none zero = refl
plain_calls_of_none (suc n) = ap (λ l. None ∷ l) (plain_calls_of_none n)

-- the function of a number, if there is one
pub function_is_any : (k : KeptFunctions) (meaning : Result (List Function) Error) (n : Option ℕ)
    → IsKeptOf meaning (option_map plain_functions k.functions) → length k.calls ≡ function_count k.functions
    → option_and_then (kept_function k) n
    ≡ option_and_then (function_at_number meaning (map (option_map plain_calls) k.calls)) n
function_is_any k meaning None is count = refl
function_is_any k meaning (Some n) is count = function_is k meaning n is count

-- ---- calls that are kept with names found so

module _ (naming : Naming) where
  -- after functions were read
  pub calls_with_functions : (u : ResolvedUnit) → KeepsCallsOf naming u → KeepsCallsOf naming (with_functions u)
  calls_with_functions u keeps = by u.keeps_functions
    where
      count : ℕ
      count = count_of_functions (functions_of u.value)

      by : (b : Bool)
          → KeepsCallsOf naming (cond b u (record u { keeps_functions = true; calls = calls_of_none count }))
      by true = keeps
      by false = λ n.
          let P : Option (Result FunctionCalls Error) → Type 0 = IsKeptOf (calls_of_number u.value naming n) in
          subst P (sym (none_at count n)) tt

  -- after calls were
  pub calls_with_calls : (u : ResolvedUnit) (number : ℕ) (r : Result FunctionCalls Error)
      → r ≡ calls_of_number u.value naming number → KeepsCallsOf naming u
      → KeepsCallsOf naming (with_calls u number r)
  calls_with_calls u number r is keeps n =
      set_number (λ m o. IsKeptOf (calls_of_number u.value naming m) o) u.calls number n r is (keeps n)
