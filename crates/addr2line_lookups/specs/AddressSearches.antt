-- Searches for an address among units, one after the other: what they change, and how they end.
use Rattle.std.specs.Prelude.{◌≡◌, ◌≢◌, ℕ, Bool, true, false, List, map, slice_get, Option, Result, Ok, Err}
use Rattle.addr2line_unit.specs.Error.{Error}
use Rattle.addr2line_unit.specs.Error.TheVariants.{Memory}
use Rattle.addr2line_unit.specs.FirstAnswers.{Lookup, output}
use Rattle.addr2line_unit.specs.UnitRange.{UnitRange}
use Rattle.addr2line_unit.specs.NumberedRanges.{covering_ranges}
use Rattle.addr2line_unit.specs.EntryReferences.{KnownUnits}
use Rattle.addr2line_unit.specs.ResolvedUnits.{AnsweredUnit, ResolvedUnit, value_of_unit}
use Rattle.addr2line_lookups.specs.KeptUnits.{KeepsFunctionsAt, ReadsAsked, ReadsAskedFunctions}
use Rattle.addr2line_lookups.specs.KeptCalls.{HoldCalls}
use Rattle.addr2line_lookups.specs.LookupCosts.{AtMostLooks, frame_probes_at, search_looks}
use Rattle.addr2line_lookups.specs.FramePlaces.{FindsFrames, frames_at_number}
use Rattle.addr2line_lookups.specs.UnitLookups.{ask_if_any, first_asked, Settles}
use Rattle.addr2line_lookups.specs.PassedUnits.{Pass, PassedAreKept, AsksUntil, KeepsAskedFunctions}
use Rattle.addr2line_lookups.specs.declared.frame_place.FramePlace.{FramePlace}
use Rattle.addr2line_lookups.specs.declared.settled.Settled.{Settled}
use Rattle.addr2line_lookups.specs.declared.settled.Settled.TheVariants.{Nothing}

-- ---- what a search changes

-- A search looked at what is kept of units no more than n times, and read lines and functions of
-- those that it asks alone. The units' values are the same, and the calls that are kept are theirs.
pub record SearchesUnits (known : KnownUnits) (asks : ℕ → Type 0) (n : ℕ)
    (old new : List ResolvedUnit) : Type 0 where
  pub values : map value_of_unit new ≡ map value_of_unit old
  pub calls : HoldCalls known new
  pub cost : AtMostLooks n old new
  pub reads : ReadsAsked asks old new
  pub functions : ReadsAskedFunctions asks old new

-- a search for the frames of an address in the unit of a number
abbrev pub SearchesUnit : KnownUnits → ℕ → ℕ → List ResolvedUnit → List ResolvedUnit → Type 0
SearchesUnit known a number old new =
    SearchesUnits known (λ n. n ≡ number) (frame_probes_at known (map value_of_unit old) a number)
    old new

-- ---- how a search ends

-- a unit has nothing of what is asked, so that the next one is asked
abbrev pub found_nothing : {P : Type 0} → Result (Settled P) Error → Bool
found_nothing (Ok Nothing) = true
found_nothing _ = false

-- a lookup gives something
abbrev pub IsSomething : {A : Type 0} → (A → Bool) → Lookup A → Type 0
IsSomething {A} is_something meaning = (x : A) × (meaning ≡ output x) × (is_something x ≡ true)

-- Where a search finds something in a unit, or is refused there, the unit answered something, so
-- that the lookup gives the same; but not where memory ran out.
pub record EndsSearch {A P : Type 0} (is_something : A → Bool) (nothing : A)
    (finds : List AnsweredUnit → List ResolvedUnit → Lookup A → P → Type 0)
    (refuses : Lookup A → Error → Type 0) : Type 0 where
  pub none : is_something nothing ≡ false
  pub found : (vs : List AnsweredUnit) (us : List ResolvedUnit) (m : Lookup A) (p : P)
      → finds vs us m p → IsSomething is_something m
  pub refused : (m : Lookup A) (e : Error) → refuses m e → e ≢ Memory → IsSomething is_something m
  pub same : (m n : Lookup A) (e : Error)
      → ((x : A) → m ≡ output x → is_something x ≡ true → n ≡ output x) → refuses m e → refuses n e

-- What a search makes of the frames in the unit of a number, or of their refusal, is what it finds
-- where it asks that unit. The functions of the unit are kept then, unless memory ran out.
abbrev pub SettlesFrom : {A P : Type 0} → A → (KnownUnits → ℕ → AnsweredUnit → A)
    → (List AnsweredUnit → List ResolvedUnit → Lookup A → P → Type 0)
    → (Lookup A → Error → Type 0) → ℕ → Result (Option FramePlace) Error
    → Result (Settled P) Error → Type 0
SettlesFrom nothing ask finds refuses number frames result =
    (known : KnownUnits) (a : ℕ) (vs : List AnsweredUnit) (us : List ResolvedUnit)
    → FindsFrames us (frames_at_number known vs a number) frames
    → (frames ≢ Err Memory → KeepsFunctionsAt us number)
    → Settles (finds vs us) refuses nothing
    (output (ask_if_any (ask known a) nothing (slice_get vs number))) result

-- A search settled what is asked of the units with a range over an address, and came to an index.
-- The units before it know nothing, and their functions are kept, as those of all units that were
-- asked are, unless memory ran out.
pub record SettlesAmong {A P : Type 0} (is_something : A → Bool) (nothing : A)
    (ask : AnsweredUnit → A)
    (finds : List AnsweredUnit → List ResolvedUnit → Lookup A → P → Type 0)
    (refuses : Lookup A → Error → Type 0) (known : KnownUnits) (a : ℕ) (rs : List UnitRange)
    (old : List ResolvedUnit) (result : Result (Settled P) Error) (new : List ResolvedUnit)
    (from : ℕ) : Type 0 where
  pub change : SearchesUnits known
      (AsksUntil ask nothing (map value_of_unit old) (covering_ranges a rs))
      (search_looks is_something ask nothing known (map value_of_unit old) a (covering_ranges a rs))
      old new
  pub found : Settles (finds (map value_of_unit old) new) refuses nothing
      (first_asked is_something ask nothing (map value_of_unit old) (covering_ranges a rs)) result
  pub asked : result ≢ Err Memory → KeepsAskedFunctions
      (AsksUntil ask nothing (map value_of_unit old) (covering_ranges a rs)) new
  pub passed : Pass ask nothing (map value_of_unit old) a from rs
  pub kept : PassedAreKept new a from rs
