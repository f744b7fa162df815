-- How many looks at what is kept lookups take. What was kept stays kept.
use Rattle.std.specs.Prelude.{◌≡◌, ℕ, ◌+◌, ◌≤◌, Bool, List, [], ◌∷◌, map, sum_by, slice_get, Option, Some, None, Result, Ok, Err, if◌then◌else◌}
use Rattle.addr2line_unit.specs.Error.{Error}
use Rattle.addr2line_unit.specs.UnitRange.{UnitRange}
use Rattle.addr2line_unit.specs.Contexts.{ContextUnit}
use Rattle.addr2line_unit.specs.Lookups.{is_answer, is_there}
use Rattle.addr2line_unit.specs.Searches.{AtMostProbes}
use Rattle.addr2line_unit.specs.EntryReferences.{KnownUnits}
use Rattle.addr2line_unit.specs.KeptFunctions.{number_probes, kept_chain_probes}
use Rattle.addr2line_unit.specs.ResolvedUnits.{ResolvedUnit, AnsweredUnit, KeepsLines, value_of_unit, functions_of, lines_probes}
use Rattle.addr2line_lookups.specs.KeptUnits.{ends_with_row_at, KeepsMore, KeepsMoreFunctions, KeepMoreFunctions, ReadsNoFunctions}
use Rattle.addr2line_lookups.specs.KeptCalls.{LeavesCalls}
use Rattle.addr2line_lookups.specs.FunctionPlaces.{function_number_at, function_calls_at}
use Rattle.addr2line_lookups.specs.FramePlaces.{frames_of_answered}
use Rattle.addr2line_lookups.specs.UnitLookups.{unit_of_answered, ends_search_at}

-- ---- looks

-- the names of a unit's counters: of looks at what is kept of it, and of runs of its line number
-- program
abbrev pub counters_of : ResolvedUnit → ℕ × ℕ
counters_of u = (u.probes.name, u.runs)

-- how many looks at what is kept of it were counted
abbrev pub count_of : ResolvedUnit → ℕ
count_of u = u.probes.count

-- those at what is kept of units
abbrev pub probes_of : List ResolvedUnit → ℕ
probes_of us = sum_by count_of us

-- A call looked at what is kept of a unit no more than n times. Lines, functions and calls that
-- were kept are kept still, so that the unit's line number program isn't run again. Its runs are
-- counted as before.
pub record AtMostLooksOf (n : ℕ) (old new : ResolvedUnit) : Type 0 where
  pub probes : AtMostProbes n old.probes new.probes
  pub runs : new.runs ≡ old.runs
  pub more : KeepsLines old → KeepsLines new
  pub functions : KeepsMoreFunctions old new

-- The same of units, in all. Each has the counters that it had.
pub record AtMostLooks (n : ℕ) (old new : List ResolvedUnit) : Type 0 where
  pub counters : map counters_of new ≡ map counters_of old
  pub probes : probes_of new ≤ probes_of old + n
  pub more : KeepsMore old new
  pub functions : KeepMoreFunctions old new

-- The same of a step of a walk: its looks, and those that are left to the walk after it, are no more
-- than those that were left before it.
pub record TakesLooks (before after : ℕ) (old new : List ResolvedUnit) : Type 0 where
  pub counters : map counters_of new ≡ map counters_of old
  pub probes : probes_of new + after ≤ probes_of old + before
  pub more : KeepsMore old new
  pub functions : KeepMoreFunctions old new

-- Lines alone were read, and nothing that is kept was looked at.
pub record ReadsLines (old new : List ResolvedUnit) : Type 0 where
  pub values : map value_of_unit new ≡ map value_of_unit old
  pub calls : LeavesCalls old new
  pub cost : AtMostLooks 0 old new
  pub functions : ReadsNoFunctions old new

-- Lines alone were read, and a step of a walk over them took no more looks than were left to it.
pub record WalksLines (before after : ℕ) (old new : List ResolvedUnit) : Type 0 where
  pub values : map value_of_unit new ≡ map value_of_unit old
  pub calls : LeavesCalls old new
  pub cost : TakesLooks before after old new
  pub functions : ReadsNoFunctions old new

-- ---- in the unit of a number

-- looks for the row of an address, if there is a unit
abbrev pub row_probes_of : ℕ → Option AnsweredUnit → ℕ
row_probes_of a None = 0
row_probes_of a (Some v) = lines_probes a v.unit.lines

abbrev pub row_probes_at : List AnsweredUnit → ℕ → ℕ → ℕ
row_probes_at vs a n = row_probes_of a (slice_get vs n)

-- for the number of the function that holds an address
abbrev pub number_probes_of : Option AnsweredUnit → ℕ
number_probes_of None = 0
number_probes_of (Some v) = number_probes (functions_of v)

abbrev pub number_probes_at : List AnsweredUnit → ℕ → ℕ
number_probes_at vs n = number_probes_of (slice_get vs n)

-- for the calls of the function of a number that an address is in
abbrev pub chain_probes_at : KnownUnits → List AnsweredUnit → ℕ → ℕ → ℕ → ℕ
chain_probes_at known vs a k n = kept_chain_probes (Some (function_calls_at known vs k n)) a

-- those of the function that was found, if one was
abbrev pub found_chain_probes : KnownUnits → List AnsweredUnit → ℕ → Result (Option ℕ) Error → ℕ
    → ℕ
found_chain_probes known vs a (Ok (Some k)) n = chain_probes_at known vs a k n
found_chain_probes known vs a (Ok None) n = 0
found_chain_probes known vs a (Err e) n = 0

-- for the function of an address, with its calls
abbrev pub function_probes_at : KnownUnits → List AnsweredUnit → ℕ → ℕ → ℕ
function_probes_at known vs a n =
    number_probes_at vs n + found_chain_probes known vs a (function_number_at vs a n) n

-- for the frames of an address: for the function and the row
abbrev pub frame_probes_at : KnownUnits → List AnsweredUnit → ℕ → ℕ → ℕ
frame_probes_at known vs a n = function_probes_at known vs a n + row_probes_at vs a n

-- ---- in the units of ranges

abbrev pub probes_among : (ℕ → ℕ) → List UnitRange → ℕ
probes_among probes rs = sum_by (λ r. probes r.unit) rs

-- the ranges that a search comes to: those up to the first whose unit ends it
abbrev pub ranges_until : (ℕ → Bool) → List UnitRange → List UnitRange
ranges_until ends [] = []
ranges_until ends (r ∷ rs) = r ∷ (if ends r.unit then [] else ranges_until ends rs)

-- looks in the units of these alone
abbrev pub probes_until : (ℕ → Bool) → (ℕ → ℕ) → List UnitRange → ℕ
probes_until ends probes rs = probes_among probes (ranges_until ends rs)

-- those for the row of an address, up to the first unit whose lines have one or are refused
abbrev pub row_looks : List ContextUnit → List AnsweredUnit → ℕ → List UnitRange → ℕ
row_looks units vs a rs = probes_until (ends_with_row_at units a) (row_probes_at vs a) rs

-- those for the frames of an address, up to the first unit that ends a search
abbrev pub search_looks : {A : Type 0} → (A → Bool) → (AnsweredUnit → A) → A → KnownUnits
    → List AnsweredUnit → ℕ → List UnitRange → ℕ
search_looks is_something ask nothing known vs a rs =
    probes_until (ends_search_at is_something ask nothing vs) (frame_probes_at known vs a) rs

-- up to the first that has frames of it, is refused, or waits for its load
abbrev pub frame_search_looks : KnownUnits → List AnsweredUnit → ℕ → List UnitRange → ℕ
frame_search_looks known vs a rs =
    search_looks is_answer (frames_of_answered known a) (Ok []) known vs a rs

-- up to the first that has a function or a place for it, or waits
abbrev pub unit_search_looks : KnownUnits → List AnsweredUnit → ℕ → List UnitRange → ℕ
unit_search_looks known vs a rs =
    search_looks is_there (unit_of_answered known a) None known vs a rs
