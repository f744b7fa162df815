-- The function of an address in the unit of a number, with the calls that the address is in there.
use Rattle.std.specs.Prelude.{◌≡◌, ◌≢◌, ◌<◌, ℕ, true, List, [], length, slice_get, Option, Some, None, IfSome, is_some, option_and_then, Result, Ok, Err}
use Rattle.addr2line_unit.specs.Error.{Error}
use Rattle.addr2line_unit.specs.Error.TheVariants.{Memory, NoSuchUnit}
use Rattle.addr2line_unit.specs.Results.{◌>>=◌}
use Rattle.addr2line_unit.specs.InlinedCalls.{FunctionCalls, chain_at}
use Rattle.addr2line_unit.specs.Frames.{FunctionAt, function_with_calls}
use Rattle.addr2line_unit.specs.EntryReferences.{KnownUnits}
use Rattle.addr2line_unit.specs.CallNumbers.{calls_of_numbers}
use Rattle.addr2line_unit.specs.KeptFunctions.{kept_at, number_in, function_at_number}
use Rattle.addr2line_unit.specs.ResolvedUnits.{ResolvedUnit, AnsweredUnit, main_unit, first_answer, unit_of_functions, functions_of}
use Rattle.addr2line_unit.specs.ContextNames.{naming_from}
use Rattle.addr2line_lookups.specs.KeptCalls.{calls_among}

-- ---- what a unit answers

-- the number of the function of an address in a unit, or the refusal of its functions
abbrev pub number_of_any : ℕ → Option AnsweredUnit → Result (Option ℕ) Error
number_of_any a None = Ok None
number_of_any a (Some v) = number_in (functions_of v) a

-- that in the unit of a number
abbrev pub function_number_at : List AnsweredUnit → ℕ → ℕ → Result (Option ℕ) Error
function_number_at vs a n = number_of_any a (slice_get vs n)

-- the calls of the function of a number in a unit
abbrev pub calls_of_any : KnownUnits → ℕ → Option AnsweredUnit → Result FunctionCalls Error
calls_of_any known k None = Err NoSuchUnit
calls_of_any known k (Some v) = calls_among known v k

-- those in the unit of a number
abbrev pub function_calls_at : KnownUnits → List AnsweredUnit → ℕ → ℕ
    → Result FunctionCalls Error
function_calls_at known vs k n = calls_of_any known k (slice_get vs n)

-- the function of an address in a unit with its calls, under what decides the unit
abbrev pub function_of_answered : KnownUnits → ℕ → AnsweredUnit
    → Result (Option FunctionAt) Error
function_of_answered known a v = do
  holder ← unit_of_functions (main_unit v) (first_answer v)
  function_with_calls holder.unit (naming_from known holder) a

abbrev pub function_of_any : KnownUnits → ℕ → Option AnsweredUnit
    → Result (Option FunctionAt) Error
function_of_any known a None = Ok None
function_of_any known a (Some v) = function_of_answered known a v

-- that in the unit of a number
abbrev pub function_with_calls_at : KnownUnits → List AnsweredUnit → ℕ → ℕ
    → Result (Option FunctionAt) Error
function_with_calls_at known vs a n = function_of_any known a (slice_get vs n)

-- ---- what is kept

-- there is a function of a number
abbrev pub HasFunction : ℕ → ResolvedUnit → Type 0
HasFunction k u = k < length u.calls

-- also in the unit of a number, if there is such a unit
abbrev pub HasFunctionAt : List ResolvedUnit → ℕ → ℕ → Type 0
HasFunctionAt us n k = IfSome (slice_get us n) (HasFunction k)

-- how many functions of the unit of a number are kept
abbrev pub count_of_unit : Option ResolvedUnit → ℕ
count_of_unit None = 0
count_of_unit (Some u) = length u.calls

abbrev pub count_at : List ResolvedUnit → ℕ → ℕ
count_at us n = count_of_unit (slice_get us n)

-- the calls of the function of a number in a unit are kept, if there is such a unit
abbrev pub KeepsCallsAt : List ResolvedUnit → ℕ → ℕ → Type 0
KeepsCallsAt us n k = IfSome (slice_get us n) (λ u. is_some (kept_at u.calls k) ≡ true)

-- the calls of the function of a number in the unit of a number, or their refusal, if they are kept
abbrev pub kept_calls_at : List ResolvedUnit → ℕ → ℕ → Option (Result FunctionCalls Error)
kept_calls_at us n k = option_and_then (λ u. kept_at u.calls k) (slice_get us n)

-- that function with them
abbrev pub kept_function_at : List ResolvedUnit → ℕ → ℕ → Option (Result FunctionAt Error)
kept_function_at us n k =
    option_and_then (λ u. function_at_number (functions_of u.value) u.calls k) (slice_get us n)

-- the numbers of the calls that were found last in the unit of a number
abbrev pub chain_of_any : Option ResolvedUnit → List ℕ
chain_of_any None = []
chain_of_any (Some u) = u.chain

abbrev pub chain_of : List ResolvedUnit → ℕ → List ℕ
chain_of us n = chain_of_any (slice_get us n)

-- ---- what is found

-- The calls of a function that are kept are what is answered, and these are the numbers of those
-- that the address is in.
pub record HoldsChain (us : List ResolvedUnit) (n k a : ℕ) (answer : Result FunctionCalls Error)
    (chain : List ℕ) : Type 0 where
  pub calls : FunctionCalls
  pub are_kept : kept_calls_at us n k ≡ Some (Ok calls)
  pub are_answer : answer ≡ Ok calls
  pub chain_is : calls_of_numbers calls.calls chain ≡ chain_at calls.calls a

-- A call found the calls of a function that an address is in, or returned the refusal of all of
-- them.
abbrev pub FindsCalls : List ResolvedUnit → ℕ → ℕ → ℕ → Result FunctionCalls Error
    → Result (Unit {0}) Error → List ℕ → Type 0
FindsCalls us n k a answer (Ok done) chain = HoldsChain us n k a answer chain
FindsCalls us n k a answer (Err e) chain = e ≢ Memory → answer ≡ Err e

-- The function that is kept is what is answered, and these are the numbers of its calls that the
-- address is in.
pub record HoldsFunction (us : List ResolvedUnit) (n k a : ℕ)
    (answer : Result (Option FunctionAt) Error) (chain : List ℕ) : Type 0 where
  pub function : FunctionAt
  pub is_kept : kept_function_at us n k ≡ Some (Ok function)
  pub is_answer : answer ≡ Ok (Some function)
  pub chain_is : calls_of_numbers function.calls.calls chain ≡ chain_at function.calls.calls a

-- A call found the number of the function of an address in the unit of a number, with the calls
-- that the address is in, or returned the refusal of the functions or of these calls.
abbrev pub FindsFunction : List ResolvedUnit → ℕ → ℕ → Result (Option FunctionAt) Error
    → Result (Option ℕ) Error → List ℕ → Type 0
FindsFunction us n a answer (Ok None) chain = answer ≡ Ok None
FindsFunction us n a answer (Ok (Some k)) chain = HoldsFunction us n k a answer chain
FindsFunction us n a answer (Err e) chain = e ≢ Memory → answer ≡ Err e
