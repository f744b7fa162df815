-- The functions of a unit and their calls, as far as they were read and are kept.
use Rattle.std.specs.Prelude.{◌≡◌, ℕ, List, [], length, map, replicate, set, slice_get, Option, Some, None, option_map, option_and_then, Result, Ok, Err}
use Rattle.addr2line_functions.specs.Error.{Error}
use Rattle.addr2line_functions.specs.Calls.{ReturnsAs, ReturnsAsOrNoMemory}
use Rattle.addr2line_functions.specs.Lines.{Location}
use Rattle.addr2line_functions.specs.Functions.{Function, function_number}
use Rattle.addr2line_functions.specs.InlinedCalls.{FunctionCalls, chain_at}
use Rattle.addr2line_functions.specs.Frames.{Frame, FunctionAt, frame_without_function}
use Rattle.addr2line_functions.specs.BorrowedFrames.{function_value, frames_of_calls}
use Rattle.addr2line_functions.specs.CountedFunctions.{CountedFunctions, CountedCalls, function_probes, chain_probes}
use Rattle.addr2line_functions.specs.declared.function_at.FunctionAt.{FunctionAt as BorrowedFunction}

-- Functions or their refusal, and by the functions' numbers the calls of each or their refusal,
-- each where it was read; with the names of the counters of their ranges.
pub record KeptFunctions : Type 0 where
  pub functions : Option (Result CountedFunctions Error)
  pub calls : List (Option (Result CountedCalls Error))

-- before all reading
abbrev pub nothing_kept : KeptFunctions
nothing_kept = record { functions = None; calls = [] }

-- ---- without the counters

abbrev pub plain_functions : Result CountedFunctions Error → Result (List Function) Error
plain_functions (Ok f) = Ok f.functions
plain_functions (Err e) = Err e

abbrev pub plain_calls : Result CountedCalls Error → Result FunctionCalls Error
plain_calls (Ok f) = Ok f.function
plain_calls (Err e) = Err e

abbrev pub plain_function_at : {R E O : Type 0} → Result (BorrowedFunction R E O) Error
    → Result FunctionAt Error
plain_function_at (Ok f) = Ok (function_value f)
plain_function_at (Err e) = Err e

-- ---- by numbers

-- what is kept for a number, if something is
abbrev pub kept_at : {A : Type 0} → List (Option A) → ℕ → Option A
kept_at xs n = option_and_then (λ x. x) (slice_get xs n)

-- the function of a number, if functions aren't refused
abbrev pub function_in : Result (List Function) Error → ℕ → Option Function
function_in (Ok fs) n = slice_get fs n
function_in (Err e) n = None

-- the number of the function that holds an address, or the refusal of the functions
abbrev pub number_in : Result (List Function) Error → ℕ → Result (Option ℕ) Error
number_in (Ok fs) a = Ok (function_number fs a)
number_in (Err e) a = Err e

-- the looks for it
abbrev pub number_probes : Result (List Function) Error → ℕ
number_probes (Ok fs) = function_probes fs
number_probes (Err e) = 0

-- the same of functions that are kept; nothing where they aren't
abbrev pub kept_function_in : Option (Result CountedFunctions Error) → ℕ → Option Function
kept_function_in None n = None
kept_function_in (Some r) n = function_in (plain_functions r) n

abbrev pub kept_number : Option (Result CountedFunctions Error) → ℕ → Result (Option ℕ) Error
kept_number None a = Ok None
kept_number (Some r) a = number_in (plain_functions r) a

abbrev pub kept_number_probes : Option (Result CountedFunctions Error) → ℕ
kept_number_probes None = 0
kept_number_probes (Some r) = number_probes (plain_functions r)

-- how many functions there are, if they aren't refused
abbrev pub count_of_functions : Result (List Function) Error → ℕ
count_of_functions (Ok fs) = length fs
count_of_functions (Err e) = 0

-- and are kept
abbrev pub function_count : Option (Result CountedFunctions Error) → ℕ
function_count None = 0
function_count (Some r) = count_of_functions (plain_functions r)

-- the calls of this number of functions, none of which were read
abbrev pub calls_of_none : {A : Type 0} → ℕ → List (Option A)
calls_of_none n = replicate n None

-- functions that were read just now
abbrev pub functions_read : Result CountedFunctions Error → KeptFunctions
functions_read r =
    record { functions = Some r; calls = calls_of_none (function_count (Some r)) }

-- with the calls of the function of a number
abbrev pub calls_read : KeptFunctions → ℕ → Result CountedCalls Error → KeptFunctions
calls_read k n r = record k { calls = set k.calls n (Some r) }

-- ---- a function with its calls

-- with the offset of the function's entry
abbrev pub function_with : ℕ → Result FunctionCalls Error → Result FunctionAt Error
function_with offset (Ok c) = Ok (record { offset = offset; calls = c })
function_with offset (Err e) = Err e

-- the function of a number with its calls, or the refusal of them, if they are kept
abbrev pub function_at_number : Result (List Function) Error
    → List (Option (Result FunctionCalls Error)) → ℕ → Option (Result FunctionAt Error)
function_at_number functions calls n =
    option_and_then (λ f. option_map (function_with f.offset) (kept_at calls n))
    (function_in functions n)

-- the same among all that is kept
abbrev pub kept_function : KeptFunctions → ℕ → Option (Result FunctionAt Error)
kept_function k n =
    option_and_then
    (λ f. option_map (λ c. function_with f.offset (plain_calls c)) (kept_at k.calls n))
    (kept_function_in k.functions n)

-- A call found numbers of the calls that hold an address, the outermost first, among calls that are
-- kept, or their refusal, or it was out of memory; none where the calls aren't kept.
abbrev pub FindsChain : {A : Type 0} → (A → List ℕ) → Option (Result FunctionCalls Error) → ℕ
    → Result A Error → Type 0
FindsChain see None a result = ReturnsAs see result (Ok [])
FindsChain see (Some (Err e)) a result = result ≡ Err e
FindsChain see (Some (Ok c)) a result =
    ReturnsAsOrNoMemory (λ x. map (slice_get c.calls) (see x)) result
    (Ok (map Some (chain_at c.calls a)))

-- the looks for them
abbrev pub kept_chain_probes : Option (Result FunctionCalls Error) → ℕ → ℕ
kept_chain_probes None a = 0
kept_chain_probes (Some (Err e)) a = 0
kept_chain_probes (Some (Ok c)) a = chain_probes c.calls a

-- The frames at a place in a function that is kept, by the numbers of the calls there, or the
-- refusal of its calls; a place in no function is a frame of its own.
abbrev pub frames_by_numbers : Option ℕ → List (List ℕ) → Option Location
    → Option (Result FunctionAt Error) → List ℕ → Result (List Frame) Error
frames_by_numbers language files here None numbers = Ok (frame_without_function here)
frames_by_numbers language files here (Some (Err e)) numbers = Err e
frames_by_numbers language files here (Some (Ok f)) numbers =
    Ok (frames_of_calls language files here f numbers)

-- ---- counters

-- what is said of something that is kept, where it is no refusal
abbrev pub IfKept : {A : Type 0} → Option (Result A Error) → (A → Type 0) → Type 0
IfKept None P = Unit {0}
IfKept (Some (Err e)) P = Unit {0}
IfKept (Some (Ok x)) P = P x

-- all that is kept has the counter of this name
pub record AreCountedBy (counter : ℕ) (k : KeptFunctions) : Type 0 where
  pub functions : IfKept k.functions (λ f. counter ≡ f.counter)
  pub calls : (n : ℕ) → IfKept (kept_at k.calls n) (λ f. counter ≡ f.counter)
