-- Calls that are kept of units are the definition's after what changes the units.
use Rattle.std.proofs.Common.{◌≡◌, ℕ, true, List, [], map, Option, Some, None, is_some, refl, sym, ap, ◌∙◌, subst}
use Rattle.std.proofs.lemmas.Simd.{map-map}
use Rattle.addr2line_unit.specs.UnitFacts.{UnitFacts}
use Rattle.addr2line_unit.specs.EntryReferences.{KnownUnits}
use Rattle.addr2line_unit.specs.FirstAnswers.{SplitLoad, FirstAnswer}
use Rattle.addr2line_unit.specs.Contexts.{ContextUnit}
use Rattle.addr2line_unit.specs.KeptFunctions.{kept_at}
use Rattle.addr2line_unit.specs.ResolvedUnits.{ResolvedUnit, AnsweredUnit, value_of_unit, plain_unit, pending_load, first_with, with_unit_answer, with_functions, IsKeptOf, KeepsNoFunctions}
use Rattle.addr2line_lookups.specs.KeptCalls.{known_among, calls_among, HoldsCalls, LeavesCallsOf, LeavesCalls}
use Rattle.addr2line_lookups.proofs.CallsOfUnits.{holds_same, holds_with_functions}
use Rattle.addr2line_lookups.proofs.KeptLines.{same_plain}

-- ---- units

-- nothing changes
pub leaves_none : (us : List ResolvedUnit) → LeavesCalls us us
leaves_none us known h = h

-- one change after the other
pub leaves_both : (us vs ws : List ResolvedUnit) → LeavesCalls us vs → LeavesCalls vs ws → LeavesCalls us ws
leaves_both us vs ws first then known h = then known (first known h)

-- the same of one unit
pub leaves_both_of : (u v w : ResolvedUnit) → LeavesCallsOf u v → LeavesCallsOf v w → LeavesCallsOf u w
leaves_both_of u v w first then known h = then known (first known h)

-- ---- one unit

-- its value and its calls are the same
pub leaves_value : (old new : ResolvedUnit) → new.value ≡ old.value → new.calls ≡ old.calls → LeavesCallsOf old new
leaves_value old new value calls known h = holds_same known old new value calls h

-- no calls are kept
pub holds_nothing : (known : KnownUnits) (u : ResolvedUnit) → u.calls ≡ [] → HoldsCalls known u
holds_nothing known u none =
    subst (λ calls. (n : ℕ) → IsKeptOf (calls_among known u.value n) (kept_at calls n)) (sym none) (λ n. tt)

-- an answer to its load
pub leaves_answer : (old new : ResolvedUnit) (later : FirstAnswer) → new.value ≡ with_unit_answer later old.value
    → new.calls ≡ old.calls → (is_some (pending_load old.value) ≡ true → KeepsNoFunctions new) → LeavesCallsOf old new
leaves_answer old new later value calls none = by (pending_load old.value) value none
  where
    with_load : Option SplitLoad → AnsweredUnit
    with_load load = record old.value { first = first_with load later old.value.first }

    by : (load : Option SplitLoad) → new.value ≡ with_load load → (is_some load ≡ true → KeepsNoFunctions new)
        → LeavesCallsOf old new
    by None value none = leaves_value old new value calls
    by (Some load) value none = λ known h. holds_nothing known new (none refl).1

-- functions are read
pub leaves_functions : (old new : ResolvedUnit) → new ≡ with_functions old → LeavesCallsOf old new
leaves_functions old new is known h = subst (HoldsCalls known) (sym is) (holds_with_functions known old h)

-- ---- known units

abbrev facts_in : ContextUnit → UnitFacts
facts_in u = u.facts

abbrev known_with : List UnitFacts → List UnitFacts → KnownUnits
known_with supplement_units units = record { units = units; supplement_units = supplement_units }

-- references lead among units as they are without what is kept
pub known_by_units : (us : List ResolvedUnit) (s : List UnitFacts)
    → known_among us s ≡ known_with s (map facts_in (map plain_unit us))
known_by_units us s = ap (known_with s) (sym (map-map facts_in plain_unit us))

pub same_known : (us vs : List ResolvedUnit) (s : List UnitFacts) → map plain_unit vs ≡ map plain_unit us
    → known_among vs s ≡ known_among us s
same_known us vs s same =
    known_by_units vs s ∙ ap (λ units. known_with s (map facts_in units)) same ∙ sym (known_by_units us s)

-- the units' values alone matter
pub known_same : (us vs : List ResolvedUnit) → map value_of_unit vs ≡ map value_of_unit us → (s : List UnitFacts)
    → known_among vs s ≡ known_among us s
known_same us vs same s = same_known us vs s (same_plain vs us same)
