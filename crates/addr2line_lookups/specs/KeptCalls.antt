-- The calls that are kept of a context's units, under the names that their entries have.
use Rattle.std.specs.Prelude.{ℕ, List, All, map, slice_get, Option, Result}
use Rattle.addr2line_unit.specs.Error.{Error}
use Rattle.addr2line_unit.specs.Results.{◌>>=◌}
use Rattle.addr2line_unit.specs.UnitFacts.{UnitFacts}
use Rattle.addr2line_unit.specs.Functions.{functions_of_unit}
use Rattle.addr2line_unit.specs.InlinedCalls.{FunctionCalls}
use Rattle.addr2line_unit.specs.EntryReferences.{KnownUnits}
use Rattle.addr2line_unit.specs.OrderedUnits.{AreKnownInOrder}
use Rattle.addr2line_unit.specs.ContextNames.{naming_from}
use Rattle.addr2line_unit.specs.KeptFunctions.{kept_at}
use Rattle.addr2line_unit.specs.ResolvedUnits.{ResolvedUnit, AnsweredUnit, main_unit, first_answer, unit_of_functions, calls_of, IsKeptOf}

-- ---- names

-- what the root of a unit says
abbrev pub facts_of : ResolvedUnit → UnitFacts
facts_of u = u.value.unit.facts

-- the units that references may lead to: these, and those of the supplement
abbrev pub known_among : List ResolvedUnit → List UnitFacts → KnownUnits
known_among us supplement_units =
    record { units = map facts_of us; supplement_units = supplement_units }

-- ---- calls

-- what is kept of the calls of a unit's functions, by the functions' numbers
abbrev pub kept_calls_of : ResolvedUnit → List (Option (Result FunctionCalls Error))
kept_calls_of u = u.calls

-- the calls of the function of a number in a unit, under what decides it
abbrev pub calls_among : KnownUnits → AnsweredUnit → ℕ → Result FunctionCalls Error
calls_among known v n = do
  holder ← unit_of_functions (main_unit v) (first_answer v)
  fs ← functions_of_unit holder.unit
  calls_of holder.unit (naming_from known holder) (slice_get fs n)

-- the calls that are kept of a unit's functions are those
abbrev pub HoldsCalls : KnownUnits → ResolvedUnit → Type 0
HoldsCalls known u = (n : ℕ) → IsKeptOf (calls_among known u.value n) (kept_at u.calls n)

-- The calls that are kept of each unit are those, and the units that references may lead to are in
-- the order of their offsets.
pub record HoldCalls (known : KnownUnits) (us : List ResolvedUnit) : Type 0 where
  pub calls : All (HoldsCalls known) us
  pub order : AreKnownInOrder known

-- whichever units references may lead to, that holds still if it did
abbrev pub LeavesCallsOf : ResolvedUnit → ResolvedUnit → Type 0
LeavesCallsOf old new = (known : KnownUnits) → HoldsCalls known old → HoldsCalls known new

abbrev pub LeavesCalls : List ResolvedUnit → List ResolvedUnit → Type 0
LeavesCalls old new = (known : KnownUnits) → HoldCalls known old → HoldCalls known new
