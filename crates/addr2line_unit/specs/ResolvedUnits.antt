-- The units of a context with the first answers to their loads, and what of them is kept.
use Rattle.std.specs.Prelude.{◌≡◌, ℕ, Bool, true, false, List, [], ◌∷◌, ◌++◌, length, set, slice_get, Option, Some, None, is_some, option_map, Result, Ok, Err, if◌then◌else◌}
use Rattle.std.specs.List.{filter_map, AllByRecursion}
use Rattle.std.specs.Option.{option_to_list}
use Rattle.addr2line_functions.specs.Error.{Error}
use Rattle.addr2line_functions.specs.Error.TheVariants.{NoSuchUnit}
use Rattle.addr2line_functions.specs.Repetition.{fault_of}
use Rattle.addr2line_functions.specs.Results.{and_then, unless, each, ◌>>=◌}
use Rattle.addr2line_functions.specs.OptionalValues.{if_any}
use Rattle.addr2line_functions.specs.UnitHeaders.{DebugUnit}
use Rattle.addr2line_functions.specs.DwarfFiles.{DwarfFile}
use Rattle.addr2line_functions.specs.EntryRows.{Row}
use Rattle.addr2line_functions.specs.UnitFacts.{UnitFacts, UnitInFile, in_file, root}
use Rattle.addr2line_functions.specs.Lines.{Lines, LineRow, Location, row_at, row_location}
use Rattle.addr2line_functions.specs.UnitLines.{lines_of_unit}
use Rattle.addr2line_functions.specs.UnitRanges.{ranges_of_lines}
use Rattle.addr2line_functions.specs.Functions.{Function, functions_of_unit}
use Rattle.addr2line_functions.specs.InlinedCalls.{FunctionCalls, Naming, calls_of_function}
use Rattle.addr2line_functions.specs.FirstAnswers.{SplitLoad, FirstAnswer, load_of}
use Rattle.addr2line_functions.specs.Contexts.{ContextUnit, context_unit, facts_of_code_unit, headers_of}
use Rattle.addr2line_functions.specs.Lookups.{split_or_itself}
use Rattle.addr2line_functions.specs.EntryReferences.{HoldingUnit}
use Rattle.addr2line_functions.specs.ContextNames.{holding_unit}
use Rattle.addr2line_root.specs.CountedRuns.{RunCount, runs_for_lines}
use Rattle.addr2line_root.specs.MainUnits.{MainUnit}
use Rattle.addr2line_root.specs.LineIndexes.{CountedLines, counted_lines, place_probes}
use Rattle.addr2line_root.specs.ProbedLists.{ProbeCount}
use Rattle.addr2line_unit.specs.KeptFunctions.{KeptFunctions, AreCountedBy, plain_functions, function_count, count_of_functions, calls_of_none, kept_at}

-- ---- values

-- a unit of a context in its file, and the first answer to its load, if there was one
pub record AnsweredUnit : Type 0 where
  pub file : DwarfFile
  pub unit : ContextUnit
  pub first : Option FirstAnswer

-- The same, and what was read of it and is kept: whether its lines and its functions are, and the
-- calls of each function or their refusal, by the functions' numbers, each if it is kept; with the
-- name of the counter of the runs of its line number program, the counter of looks at what is kept,
-- and the numbers of the calls that were found last.
pub record ResolvedUnit : Type 0 where
  pub value : AnsweredUnit
  pub keeps_lines : Bool
  pub runs : ℕ
  pub keeps_functions : Bool
  pub calls : List (Option (Result FunctionCalls Error))
  pub probes : ProbeCount
  pub chain : List ℕ

-- without what is kept
abbrev pub value_of_unit : ResolvedUnit → AnsweredUnit
value_of_unit u = u.value

-- as a unit of a context
abbrev pub plain_unit : ResolvedUnit → ContextUnit
plain_unit u = u.value.unit

-- the unit of the main file
abbrev pub main_unit : AnsweredUnit → UnitInFile
main_unit v = in_file v.file v.unit.facts

-- what the first entry of a unit is
abbrev pub HasRoot : UnitInFile → Row → Type 0
HasRoot u r = root u.file.offset_limit u.facts.header u.facts.table ≡ Ok r

-- ---- what decides a unit

-- the load that needs an answer, where there was none
abbrev pub undecided : Result (Option SplitLoad) Error → Option FirstAnswer → Option SplitLoad
undecided (Ok (Some load)) None = Some load
undecided (Ok (Some load)) (Some first) = None
undecided (Ok None) first = None
undecided (Err e) first = None

-- that of a unit
abbrev pub pending_load : AnsweredUnit → Option SplitLoad
pending_load v = undecided (load_of (main_unit v)) v.first

-- the first answer to a load; before it the unit has its functions itself
abbrev pub answer_or_none : Option FirstAnswer → FirstAnswer
answer_or_none None = Ok None
answer_or_none (Some first) = first

-- what decides a unit: its own refusal, or the first answer, if there was one; a unit without a
-- load has its functions itself
abbrev pub decided : Result (Option SplitLoad) Error → Option FirstAnswer → FirstAnswer
decided (Err e) first = Err e
decided (Ok None) first = Ok None
decided (Ok (Some load)) first = answer_or_none first

-- the same of a unit
abbrev pub first_answer : AnsweredUnit → FirstAnswer
first_answer v = decided (load_of (main_unit v)) v.first

-- the unit that has the functions, under a first answer, and the file that it is in
abbrev pub unit_of_functions : UnitInFile → FirstAnswer → Result HoldingUnit Error
unit_of_functions u first = do
  split ← first
  Ok (holding_unit (split_or_itself u split))

-- ---- functions

-- the functions of a unit, under a first answer
abbrev pub functions_under : UnitInFile → FirstAnswer → Result (List Function) Error
functions_under u first = do
  holder ← unit_of_functions u first
  functions_of_unit holder.unit

-- those of a unit under what decides it
abbrev pub functions_of : AnsweredUnit → Result (List Function) Error
functions_of v = functions_under (main_unit v) (first_answer v)

-- the calls of the function of a number
abbrev pub calls_of : UnitInFile → Naming → Option Function → Result FunctionCalls Error
calls_of u naming None = Err NoSuchUnit
calls_of u naming (Some f) = calls_of_function u naming f.offset

-- those of a unit under what decides it
abbrev pub calls_of_number : AnsweredUnit → Naming → ℕ → Result FunctionCalls Error
calls_of_number v naming n = do
  holder ← unit_of_functions (main_unit v) (first_answer v)
  fs ← functions_of_unit holder.unit
  calls_of holder.unit naming (slice_get fs n)

-- ---- what is kept

-- what is kept, if something is, is what the definition says
abbrev pub IsKeptOf : {A : Type 0} → A → Option A → Type 0
IsKeptOf x None = Unit {0}
IsKeptOf x (Some y) = y ≡ x

-- something, if it is kept
abbrev pub if_kept : {A : Type 0} → Bool → A → Option A
if_kept is_kept x = if is_kept then Some x else None

-- how often the line number program of a unit was run: once where it has one and its lines are kept
abbrev pub runs_if_kept : UnitFacts → Bool → ℕ
runs_if_kept u is_kept = if is_kept then runs_for_lines u else 0

-- its counter
abbrev pub runs_of_unit : ResolvedUnit → RunCount
runs_of_unit u =
    record { name = u.runs; count = runs_if_kept u.value.unit.facts u.keeps_lines }

-- functions are kept of a decided unit alone
abbrev pub AreFunctionsOf : UnitInFile → Result (Option SplitLoad) Error → Option FirstAnswer
    → Option (Result (List Function) Error) → Type 0
AreFunctionsOf u (Ok (Some load)) None functions = functions ≡ None
AreFunctionsOf u (Ok (Some load)) (Some first) functions =
    IsKeptOf (functions_under u first) functions
AreFunctionsOf u (Ok None) first functions = IsKeptOf (functions_under u (Ok None)) functions
AreFunctionsOf u (Err e) first functions = IsKeptOf (functions_under u (Err e)) functions

-- What is kept of a unit's functions are the functions under the first answer, with a place for the
-- calls of each, all with one counter.
pub record KeepsFunctions (u : UnitInFile) (load : Result (Option SplitLoad) Error)
    (first : Option FirstAnswer) (k : KeptFunctions) (counter : ℕ) : Type 0 where
  pub functions_are : AreFunctionsOf u load first (option_map plain_functions k.functions)
  pub count_is : length k.calls ≡ function_count k.functions
  pub are_counted : AreCountedBy counter k

-- What is kept of a unit is its load, its lines with this counter, for which its program was run
-- once, and its functions with the same counter; and a unit of which functions are kept is whole.
pub record KeepsParses (u : MainUnit) (load : Result (Option SplitLoad) Error)
    (first : Option FirstAnswer) (lines : Option (Result CountedLines Error))
    (functions : KeptFunctions) (counter : ℕ) : Type 0 where
  pub load_is : load ≡ load_of u.counted.unit
  pub lines_are : IsKeptOf (counted_lines counter (lines_of_unit u.counted.unit)) lines
  pub runs_are : u.counted.runs.count ≡ runs_if_kept u.counted.unit.facts (is_some lines)
  pub functions_are : KeepsFunctions u.counted.unit load first functions counter
  pub is_whole : is_some functions.functions ≡ true → u.is_whole ≡ true

-- ---- places

-- the row of an address in lines, or the refusal of them
abbrev pub row_or_refusal : ℕ → Result Lines Error → Result (Option LineRow) Error
row_or_refusal a (Ok l) = Ok (row_at l a)
row_or_refusal a (Err e) = Err e

-- how many looks at sequences and rows that takes
abbrev pub lines_probes : ℕ → Result Lines Error → ℕ
lines_probes a (Ok l) = place_probes l a
lines_probes a (Err e) = 0

-- the same for lines as they are kept; no row where they aren't
abbrev pub row_in_kept : ℕ → Option (Result CountedLines Error) → Result (Option LineRow) Error
row_in_kept a None = Ok None
row_in_kept a (Some (Ok l)) = Ok (row_at l.lines a)
row_in_kept a (Some (Err e)) = Err e

abbrev pub kept_probes : ℕ → Option (Result CountedLines Error) → ℕ
kept_probes a None = 0
kept_probes a (Some (Ok l)) = place_probes l.lines a
kept_probes a (Some (Err e)) = 0

-- the place of a row of lines, unless they are refused
abbrev pub location_of_row : LineRow → Result Lines Error → Option Location
location_of_row r (Ok l) = Some (row_location l.files r)
location_of_row r (Err e) = None

-- the lines were read and are kept, be it a refusal
abbrev pub KeepsLines : ResolvedUnit → Type 0
KeepsLines u = u.keeps_lines ≡ true

-- ---- functions that are kept

-- a unit with its functions, the calls of none of which were read, unless they are kept already
abbrev pub with_functions : ResolvedUnit → ResolvedUnit
with_functions u =
    if u.keeps_functions then u
    else record u {
      keeps_functions = true;
      calls = calls_of_none (count_of_functions (functions_of u.value));
    }

-- with the calls of the function of a number
abbrev pub with_calls : ResolvedUnit → ℕ → Result FunctionCalls Error → ResolvedUnit
with_calls u n r = record u { calls = set u.calls n (Some r) }

-- with looks at what is kept
abbrev pub with_probes : ResolvedUnit → ProbeCount → ResolvedUnit
with_probes u p = record u { probes = p }

-- and with the numbers of calls that were found
abbrev pub with_chain : ResolvedUnit → ProbeCount → List ℕ → ResolvedUnit
with_chain u p numbers = record u { probes = p; chain = numbers }

-- a unit of which no functions are kept
abbrev pub KeepsNoFunctions : ResolvedUnit → Type 0
KeepsNoFunctions u = (u.keeps_functions ≡ false) × (u.calls ≡ [])

-- the calls that are kept of a unit's functions, under what decides it, with names found so
abbrev pub KeepsCallsOf : Naming → ResolvedUnit → Type 0
KeepsCallsOf naming u =
    (n : ℕ) → IsKeptOf (calls_of_number u.value naming n) (kept_at u.calls n)

-- units of each of which none are
abbrev pub KeepNoFunctions : List ResolvedUnit → Type 0
KeepNoFunctions us = AllByRecursion KeepsNoFunctions us

-- ---- answers

-- the first answer to a unit's load after one more
abbrev pub first_with : Option SplitLoad → FirstAnswer → Option FirstAnswer → Option FirstAnswer
first_with None later first = first
first_with (Some load) later first = Some later

-- a unit after an answer to its load; a unit that is decided stays as it is
abbrev pub with_unit_answer : FirstAnswer → AnsweredUnit → AnsweredUnit
with_unit_answer later v = record v { first = first_with (pending_load v) later v.first }

-- ---- units that were made just now

abbrev pub without_answer : DwarfFile → ContextUnit → AnsweredUnit
without_answer file u = record { file = file; unit = u; first = None }

abbrev pub new_unit : UnitInFile → Result AnsweredUnit Error
new_unit u = do
  c ← context_unit u
  Ok (without_answer u.file c)

-- units, and after them a unit without an answer, or why it is refused
abbrev pub with_new_unit : UnitInFile → List AnsweredUnit → Result (List AnsweredUnit) Error
with_new_unit u units = and_then (new_unit u) (λ unit. Ok (units ++ unit ∷ []))

-- the same of the unit of a header, where it is one of a context
abbrev pub with_unit_of_header : DwarfFile → DebugUnit → List AnsweredUnit
    → Result (List AnsweredUnit) Error
with_unit_of_header file h units = do
  unit ← if_any (λ u. new_unit (in_file file u)) (facts_of_code_unit file h)
  Ok (units ++ option_to_list unit)

-- the lines are kept only where the ranges are those of the lines
abbrev pub RunsForRangesAlone : ResolvedUnit → Type 0
RunsForRangesAlone u = KeepsLines u → u.value.unit.ranges ≡ ranges_of_lines u.value.unit.lines

-- so they are of each of some units
abbrev pub RunForRangesAlone : List ResolvedUnit → Type 0
RunForRangesAlone us = AllByRecursion RunsForRangesAlone us

-- a context's units of a file, or the first fault
abbrev pub new_units : DwarfFile → Result (List AnsweredUnit) Error
new_units file = do
  let headers = headers_of file
  let facts = filter_map (facts_of_code_unit file) headers.items
  us ← each (λ u. new_unit (in_file file u)) facts
  unless (fault_of headers) (Ok us)
