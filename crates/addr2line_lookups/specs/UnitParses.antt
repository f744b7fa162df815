-- What reading ahead says of units, by their numbers, and what it leaves of them: a load that is
-- pending where the walk comes to its unit is answered by no file.
use Rattle.std.specs.Prelude.{◌≡◌, ◌≢◌, ◌⊎◌, ℕ, ◌<◌, zero, suc, List, [], ◌∷◌, length, map, set, slice_get, Option, Some, None, IfSome, Result, Ok, Err}
use Rattle.addr2line_unit.specs.Error.{Error}
use Rattle.addr2line_unit.specs.Error.TheVariants.{Memory}
use Rattle.addr2line_unit.specs.Results.{refusal_of, each, ◌>>=◌}
use Rattle.addr2line_unit.specs.Functions.{functions_of_unit}
use Rattle.addr2line_unit.specs.InlinedCalls.{calls_of_function}
use Rattle.addr2line_unit.specs.EntryReferences.{KnownUnits}
use Rattle.addr2line_unit.specs.KeptFunctions.{count_of_functions}
use Rattle.addr2line_unit.specs.ResolvedUnits.{AnsweredUnit, ResolvedUnit, value_of_unit, main_unit, first_answer, unit_of_functions, functions_of, with_unit_answer}
use Rattle.addr2line_unit.specs.ContextNames.{naming_from}
use Rattle.addr2line_lookups.specs.KeptUnits.{KeepsFunctionList, KeepsFunctionCalls, KeepsFunctionsAt}
use Rattle.addr2line_lookups.specs.KeptCalls.{calls_among}

-- ---- one unit

-- a unit whose turn has come: its load is answered by no file, if it is pending
abbrev pub without_load : AnsweredUnit → AnsweredUnit
without_load v = with_unit_answer (Ok None) v

-- whether the functions of a unit can be read
abbrev pub check_functions_of : AnsweredUnit → Result (Unit {0}) Error
check_functions_of v = refusal_of (functions_of v)

-- whether they can be read with the calls that are inlined into them
abbrev pub check_calls_of : KnownUnits → AnsweredUnit → Result (Unit {0}) Error
check_calls_of known v = do
  holder ← unit_of_functions (main_unit v) (first_answer v)
  fs ← functions_of_unit holder.unit
  calls ← each (λ f. calls_of_function holder.unit (naming_from known holder) f.offset) fs
  Ok tt

-- that was so, or memory ran out
abbrev pub ChecksOrNoMemory : Result (Unit {0}) Error → Result (Unit {0}) Error → Type 0
ChecksOrNoMemory result meaning = (meaning ≡ result) ⊎ (result ≡ Err Memory)

-- ---- by numbers

-- units after the turn of one of them, if there is one of that number
abbrev pub after_turn_of : List AnsweredUnit → ℕ → Option AnsweredUnit → List AnsweredUnit
after_turn_of vs number None = vs
after_turn_of vs number (Some v) = set vs number (without_load v)

abbrev pub after_turn : List AnsweredUnit → ℕ → List AnsweredUnit
after_turn vs number = after_turn_of vs number (slice_get vs number)

-- what is said of the unit of a number
abbrev pub check_if_any : (AnsweredUnit → Result (Unit {0}) Error) → Option AnsweredUnit
    → Result (Unit {0}) Error
check_if_any check None = Ok tt
check_if_any check (Some v) = check v

abbrev pub check_unit_at : (AnsweredUnit → Result (Unit {0}) Error) → List AnsweredUnit → ℕ
    → Result (Unit {0}) Error
check_unit_at check vs number = check_if_any check (slice_get vs number)

-- the functions of all units are kept
abbrev pub KeepAllFunctions : List ResolvedUnit → Type 0
KeepAllFunctions us = (number : ℕ) → KeepsFunctionsAt us number

-- the unit of a number comes no later than the first whose functions are refused
abbrev pub AsksForFunctions : List AnsweredUnit → ℕ → Type 0
AsksForFunctions vs number =
    (n : ℕ) → n < number → check_unit_at check_functions_of vs n ≡ Ok tt

-- Reading ahead keeps the functions of all units; where one's are refused, those of the units up to
-- that one.
abbrev pub KeepsParsed : Result (Unit {0}) Error → List ResolvedUnit → Type 0
KeepsParsed (Ok x) us = KeepAllFunctions us
KeepsParsed (Err e) us =
    e ≢ Memory → (number : ℕ) → AsksForFunctions (map value_of_unit us) number
    → KeepsFunctionsAt us number

-- the functions of a unit are kept, and the calls of each of them
abbrev pub KeepsAllCalls : ResolvedUnit → Type 0
KeepsAllCalls u =
    KeepsFunctionList u
    × ((function : ℕ) → function < count_of_functions (functions_of u.value)
    → KeepsFunctionCalls function u)

-- so it is with the unit of a number, if there is such a unit
abbrev pub KeepsAllCallsAt : List ResolvedUnit → ℕ → Type 0
KeepsAllCallsAt us number = IfSome (slice_get us number) KeepsAllCalls

-- and with all units
abbrev pub KeepAllCalls : List ResolvedUnit → Type 0
KeepAllCalls us = (number : ℕ) → KeepsAllCallsAt us number

-- whether the calls of the function of a number can be read
abbrev pub check_call_of : KnownUnits → ℕ → AnsweredUnit → Result (Unit {0}) Error
check_call_of known function v = refusal_of (calls_among known v function)

-- ---- one after the other

-- a refusal ends a walk
abbrev pub unless_refused : Result (Unit {0}) Error → AnsweredUnit → List AnsweredUnit
    → Result (Unit {0}) Error × List AnsweredUnit → Result (Unit {0}) Error × List AnsweredUnit
unless_refused (Ok x) v vs rest = (rest.0, v ∷ rest.1)
unless_refused (Err e) v vs rest = (Err e, v ∷ vs)

-- the first of some units, as many as a number says, up to the first refusal
abbrev pub walk_first : (AnsweredUnit → Result (Unit {0}) Error) → ℕ → List AnsweredUnit
    → Result (Unit {0}) Error × List AnsweredUnit
walk_first check zero vs = (Ok tt, vs)
walk_first check (suc n) [] = (Ok tt, [])
walk_first check (suc n) (v ∷ vs) =
    let w = without_load v in unless_refused (check w) w vs (walk_first check n vs)

-- all of them
abbrev pub walk_all : (AnsweredUnit → Result (Unit {0}) Error) → List AnsweredUnit
    → Result (Unit {0}) Error × List AnsweredUnit
walk_all check vs = walk_first check (length vs) vs

-- What a walk over all units says, and what it leaves; or out of memory, and what a walk over some
-- first of them leaves.
abbrev pub WalksOrNoMemory : (AnsweredUnit → Result (Unit {0}) Error) → Result (Unit {0}) Error
    → List AnsweredUnit → List AnsweredUnit → Type 0
WalksOrNoMemory check result old new =
    (walk_all check old ≡ (result, new))
    ⊎ ((result ≡ Err Memory) × ((n : ℕ) × (new ≡ (walk_first check n old).1)))
