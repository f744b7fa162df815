-- Lookups whose loads another crate answers, one after the other.
use Rattle.std.specs.Prelude.{◌≡◌, ◌≢◌, List, [], map, Option, Some, None, Result, Ok, Err}
use Rattle.addr2line_lookups.specs.Error.{Error}
use Rattle.addr2line_lookups.specs.Error.TheVariants.{Memory}
use Rattle.addr2line_lookups.specs.FirstAnswers.{Lookup, output}
use Rattle.addr2line_lookups.specs.Frames.{Frame}
use Rattle.addr2line_lookups.specs.ResolvedUnits.{ResolvedUnit, value_of_unit}
use Rattle.addr2line_lookups.specs.UnitFacts.{UnitInFile}
use Rattle.addr2line_lookups.specs.UnitLookups.{IsPending, FoundFrames, FoundUnit}
use Rattle.addr2line_lookups.specs.declared.frame_place.FramePlace.{FramePlace}
use Rattle.addr2line_lookups.specs.declared.settled.Settled.{Settled}
use Rattle.addr2line_lookups.specs.declared.settled.Settled.TheVariants.{Waits, Nothing, Found}
use Rattle.addr2line_context.specs.declared.frame_loads.DecidedFrames.{DecidedFrames}
use Rattle.addr2line_context.specs.declared.frame_loads.DecidedFrames.TheVariants.{Place, NoFrames, Refusal}
use Rattle.addr2line_context.specs.declared.unit_loads.DecidedUnit.{DecidedUnit}
use Rattle.addr2line_context.specs.declared.unit_loads.DecidedUnit.TheVariants.{Number, NoUnit}

-- something is found without a load
abbrev pub IsDone : {A : Type 0} → Lookup A → Type 0
IsDone {A} meaning = (x : A) × (meaning ≡ output x)

-- a lookup waits for a load, or this decides it; or out of memory
abbrev pub DecidesUnlessWaiting : {A D : Type 0} → (Lookup A → D → Type 0) → Lookup A
    → Result (Option D) Error → Type 0
DecidesUnlessWaiting decides meaning (Ok None) = IsPending meaning
DecidesUnlessWaiting decides meaning (Ok (Some d)) = IsDone meaning × decides meaning d
DecidesUnlessWaiting decides meaning (Err e) = e ≡ Memory

-- what a lookup that waits for no load finds, or out of memory
abbrev pub GivesDecided : {A B : Type 0} → (A → B) → Result A Error → Lookup (Result B Error)
    → Type 0
GivesDecided see (Ok x) meaning = meaning ≡ output (Ok (see x))
GivesDecided see (Err e) meaning = e ≢ Memory → meaning ≡ output (Err e)

-- ---- frames

-- A lookup finds the frames at a place in these units, or none, or is refused.
abbrev pub DecidesFrames : List ResolvedUnit → Lookup (Result (List Frame) Error) → DecidedFrames
    → Type 0
DecidesFrames us meaning (Place p) = FoundFrames us meaning p
DecidesFrames us meaning NoFrames = meaning ≡ output (Ok [])
DecidesFrames us meaning (Refusal e) = meaning ≡ output (Err e)

-- This is what settling a lookup of frames found.
abbrev pub IsSettled : Result (Settled FramePlace) Error → Result (Option DecidedFrames) Error
    → Type 0
IsSettled (Ok Waits) result = result ≡ Ok None
IsSettled (Ok Nothing) result = result ≡ Ok (Some NoFrames)
IsSettled (Ok (Found p)) result = result ≡ Ok (Some (Place p))
IsSettled (Err e) (Ok decided) = (decided ≡ Some (Refusal e)) × (e ≢ Memory)
IsSettled (Err e) (Err d) = (e ≡ Memory) × (d ≡ Memory)

-- ---- units

-- A lookup finds the unit of a number among these, or none.
abbrev pub DecidesUnit : List ResolvedUnit → Lookup (Option UnitInFile) → DecidedUnit → Type 0
DecidesUnit us meaning (Number n) = FoundUnit (map value_of_unit us) us meaning n
DecidesUnit us meaning NoUnit = meaning ≡ output None
