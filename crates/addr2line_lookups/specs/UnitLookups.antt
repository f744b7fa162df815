-- Lookups over units by their numbers: what the units of ranges answer, one after the other, until
-- one of them knows something or its load needs an answer.
use Rattle.std.specs.Prelude.{◌≡◌, ◌≢◌, ℕ, Bool, true, List, [], ◌∷◌, map, slice_get, Option, Some, None, Result, Ok, Err, if◌then◌else◌, refl}
use Rattle.addr2line_unit.specs.Error.{Error}
use Rattle.addr2line_unit.specs.Error.TheVariants.{Memory}
use Rattle.addr2line_unit.specs.UnitFacts.{UnitInFile}
use Rattle.addr2line_unit.specs.Frames.{Frame}
use Rattle.addr2line_unit.specs.FirstAnswers.{PendingLoad, Lookup, output, pending}
use Rattle.addr2line_unit.specs.Lookups.{first_output, has_frames, is_answer, is_there}
use Rattle.addr2line_unit.specs.UnitRange.{UnitRange}
use Rattle.addr2line_unit.specs.EntryReferences.{KnownUnits, HoldingUnit}
use Rattle.addr2line_unit.specs.ResolvedUnits.{ResolvedUnit, AnsweredUnit, main_unit, first_answer, unit_of_functions}
use Rattle.addr2line_lookups.specs.KeptUnits.{KeepsFunctionsAt}
use Rattle.addr2line_lookups.specs.Preloads.{load_at}
use Rattle.addr2line_lookups.specs.FramePlaces.{HoldsFrames, frames_of_answered}
use Rattle.addr2line_lookups.specs.declared.frame_place.FramePlace.{FramePlace}
use Rattle.addr2line_lookups.specs.declared.settled.Settled.{Settled}
use Rattle.addr2line_lookups.specs.declared.settled.Settled.TheVariants.{Waits, Nothing, Found}

-- ---- one after the other

-- what is found, unless a load needs an answer before
abbrev pub unless_waiting : {A : Type 0} → Option PendingLoad → A → Lookup A
unless_waiting None x = output x
unless_waiting (Some p) x = pending p

-- what is asked of a unit, if there is one
abbrev pub ask_if_any : {A : Type 0} → (AnsweredUnit → A) → A → Option AnsweredUnit → A
ask_if_any ask nothing None = nothing
ask_if_any ask nothing (Some v) = ask v

-- of that of a number
abbrev pub ask_at : {A : Type 0} → (AnsweredUnit → A) → A → List AnsweredUnit → ℕ → Lookup A
ask_at ask nothing vs n = unless_waiting (load_at vs n) (ask_if_any ask nothing (slice_get vs n))

-- an answer ends a search, where it is something or a load needs an answer
abbrev pub ends_search : {A : Type 0} → (A → Bool) → Lookup A → Bool
ends_search is_something (pending p) = true
ends_search is_something (output x) = is_something x

-- so does the unit of a number that gives it
abbrev pub ends_search_at : {A : Type 0} → (A → Bool) → (AnsweredUnit → A) → A → List AnsweredUnit
    → ℕ → Bool
ends_search_at is_something ask nothing vs n = ends_search is_something (ask_at ask nothing vs n)

-- of those of ranges
abbrev pub first_asked : {A : Type 0} → (A → Bool) → (AnsweredUnit → A) → A → List AnsweredUnit
    → List UnitRange → Lookup A
first_asked is_something ask nothing vs rs =
    first_output is_something nothing (map (λ r. ask_at ask nothing vs r.unit) rs)

-- a load needs an answer before something is found
abbrev pub IsPending : {A : Type 0} → Lookup A → Type 0
IsPending {A} meaning = (p : PendingLoad) × (meaning ≡ pending p)

-- What settling a lookup gave, where it is said what is found, and how it is refused.
abbrev pub Settles : {A P : Type 0} → (Lookup A → P → Type 0) → (Lookup A → Error → Type 0) → A
    → Lookup A → Result (Settled P) Error → Type 0
Settles finds refuses nothing meaning (Ok Waits) = IsPending meaning
Settles finds refuses nothing meaning (Ok Nothing) = meaning ≡ output nothing
Settles finds refuses nothing meaning (Ok (Found p)) = finds meaning p
Settles finds refuses nothing meaning (Err e) = refuses meaning e

-- ---- frames

-- in the units of ranges
abbrev pub frames_among : KnownUnits → List AnsweredUnit → ℕ → List UnitRange
    → Lookup (Result (List Frame) Error)
frames_among known vs a rs = first_asked is_answer (frames_of_answered known a) (Ok []) vs rs

-- frames that are some answer a lookup
pub some_answer : (x : Result (List Frame) Error) → has_frames x ≡ true → is_answer x ≡ true
some_answer (Ok []) h = h
some_answer (Ok (f ∷ fs)) h = refl
some_answer (Err e) h = refl

-- the frames at a place are what a lookup finds
pub record FoundFrames (us : List ResolvedUnit) (meaning : Lookup (Result (List Frame) Error))
    (p : FramePlace) : Type 0 where
  pub answer : Result (List Frame) Error
  pub is_found : meaning ≡ output answer
  pub holds : HoldsFrames us answer p

-- what refuses frames is the lookup's refusal
abbrev pub RefusesFrames : Lookup (Result (List Frame) Error) → Error → Type 0
RefusesFrames meaning e = e ≢ Memory → meaning ≡ output (Err e)

-- what settling a lookup of frames found
abbrev pub SettlesFrames : List ResolvedUnit → Lookup (Result (List Frame) Error)
    → Result (Settled FramePlace) Error → Type 0
SettlesFrames us meaning result = Settles (FoundFrames us) RefusesFrames (Ok []) meaning result

-- ---- units

-- the unit that has the functions, if it has these frames and nothing is refused
abbrev pub unit_with : Result (List Frame) Error → Result HoldingUnit Error → Option UnitInFile
unit_with frames (Err e) = None
unit_with frames (Ok h) = if has_frames frames then Some h.unit else None

-- the unit of an address
abbrev pub unit_of_answered : KnownUnits → ℕ → AnsweredUnit → Option UnitInFile
unit_of_answered known a v =
    unit_with (frames_of_answered known a v) (unit_of_functions (main_unit v) (first_answer v))

abbrev pub unit_among : KnownUnits → List AnsweredUnit → ℕ → List UnitRange
    → Lookup (Option UnitInFile)
unit_among known vs a rs = first_asked is_there (unit_of_answered known a) None vs rs

-- the unit that has the functions, where nothing refuses it
abbrev pub unit_if_any : Result HoldingUnit Error → Option UnitInFile
unit_if_any (Ok h) = Some h.unit
unit_if_any (Err e) = None

-- of that of a number
abbrev pub unit_at_number : List AnsweredUnit → ℕ → Option UnitInFile
unit_at_number vs n =
    ask_if_any (λ v. unit_if_any (unit_of_functions (main_unit v) (first_answer v))) None
    (slice_get vs n)

-- a lookup finds the unit of a number, whose functions are kept
pub record FoundUnit (vs : List AnsweredUnit) (us : List ResolvedUnit)
    (meaning : Lookup (Option UnitInFile)) (n : ℕ) : Type 0 where
  pub is_found : meaning ≡ output (unit_at_number vs n)
  pub is_one : is_there (unit_at_number vs n) ≡ true
  pub keeps_functions : KeepsFunctionsAt us n

-- What settling a lookup of a unit found. What refuses frames refuses none.
abbrev pub SettlesUnit : List AnsweredUnit → List ResolvedUnit → Lookup (Option UnitInFile)
    → Result (Settled ℕ) Error → Type 0
SettlesUnit vs us meaning result =
    Settles (FoundUnit vs us) (λ m e. e ≡ Memory) None meaning result
