-- What calls read of units and leave of what is kept, and what they leave where memory is refused.
use Rattle.std.specs.Prelude.{◌≡◌, ◌⊎◌, ℕ, ⊤, List, [], ◌∷◌, ◌++◌, map, take, Option, Result, Ok, Err}
use Rattle.addr2line_context.specs.AnsweredContexts.{AnsweredContext}
use Rattle.addr2line_context.specs.ContextCosts.{AsksForPlace, AsksForFrames, AsksForUnit, AsksForRange}
use Rattle.addr2line_context.specs.ContextNames.{naming_in}
use Rattle.addr2line_context.specs.Contexts.{ContextUnit, FileContext}
use Rattle.addr2line_context.specs.DwarfFiles.{DwarfFile}
use Rattle.addr2line_context.specs.Error.{Error}
use Rattle.addr2line_context.specs.FirstAnswers.{FirstAnswer, FirstAnswers, Lookup}
use Rattle.addr2line_context.specs.Histories.{ContextCall, find_location, find_frames, find_unit, find_location_range, parse_lines, parse_functions, parse_inlined_functions, ContextState, call, functions_or_refusal, calls_or_refusal, parse_from}
use Rattle.addr2line_context.specs.KeptUnits.{AsksForLines, KeepsMore, KeepMoreFunctions, ReadsAsked, ReadsAskedFunctions}
use Rattle.addr2line_context.specs.LookupCosts.{counters_of}
use Rattle.addr2line_context.specs.Lookups.{Namings, frames, unit, resume}
use Rattle.addr2line_context.specs.ResolvedUnits.{ResolvedUnit}
use Rattle.addr2line_context.specs.SettledLookups.{frames_in, unit_in}
use Rattle.linemap_replay.specs.Replays.{answers_after, state_of, state_after}

-- ---- units that are asked

-- the first answers after those to some first loads of a lookup
abbrev pub SomeLoadsAnswered : {A : Type 0} → FileContext → (FirstAnswers → Lookup A)
    → List (Option DwarfFile) → FirstAnswers → FirstAnswers → Type 0
SomeLoadsAnswered c lookup files old new =
    (n : ℕ) × (new ≡ (resume c lookup (take n files) old).1)

-- after answers to some first loads a lookup of an address asks the unit of a number
abbrev pub AsksAfterLoads : {A : Type 0} → (AnsweredContext → ℕ → Lookup A)
    → (AnsweredContext → ℕ → ℕ → Type 0) → AnsweredContext → ℕ → List (Option DwarfFile) → ℕ
    → Type 0
AsksAfterLoads lookup asks c a files number =
    (answers : FirstAnswers)
    × SomeLoadsAnswered c.plain (λ s. lookup (record c { answers = s }) a) files c.answers answers
    × asks (record c { answers = answers }) a number

-- A call may read the lines of the unit of a number. A lookup of a place, of frames or of a unit may
-- read those of the units that it asks, one of stretches those of units with a range between its
-- ends, and `parse_lines` those up to the first refusal. No other call may read any.
abbrev pub MayReadLines : AnsweredContext → ContextCall → ℕ → Type 0
MayReadLines c (find_location a) number = AsksForPlace c a number
MayReadLines c (find_frames a files) number =
    AsksAfterLoads frames_in AsksForFrames c a files number
MayReadLines c (find_unit a files) number = AsksAfterLoads unit_in AsksForUnit c a files number
MayReadLines c (find_location_range low high) number = AsksForRange c low high number
MayReadLines c parse_lines number = AsksForLines c.plain.context.units number
MayReadLines c k number = ⊥

-- A call may read its functions. A lookup of frames or of a unit may read those of the units that it
-- asks, `parse_functions` and `parse_inlined_functions` those of all. No other call may read any.
abbrev pub MayReadFunctions : AnsweredContext → ContextCall → ℕ → Type 0
MayReadFunctions c (find_frames a files) number =
    AsksAfterLoads frames_in AsksForFrames c a files number
MayReadFunctions c (find_unit a files) number =
    AsksAfterLoads unit_in AsksForUnit c a files number
MayReadFunctions c parse_functions number = ⊤
MayReadFunctions c parse_inlined_functions number = ⊤
MayReadFunctions c k number = ⊥

-- some call of a list may, under the first answers that the calls before it left
pub record SomeMayRead (may_read : AnsweredContext → ContextCall → ℕ → Type 0)
    (c : AnsweredContext) (ks : List ContextCall) (number : ℕ) : Type 0 where
  pub done : List ContextCall
  pub next : ContextCall
  pub rest : List ContextCall
  pub are_calls : ks ≡ done ++ next ∷ rest
  pub reads : may_read (record c { answers = answers_after c done }) next number

-- ---- what is kept

-- Lines, functions and calls that were kept are kept still, and each unit has the counters that it
-- had. Lines and functions are read of no units but those that may be asked for them.
pub record KeepsAndReads (asks_lines asks_functions : ℕ → Type 0) (old new : List ResolvedUnit)
    : Type 0 where
  pub counters : map counters_of new ≡ map counters_of old
  pub lines : KeepsMore old new
  pub functions : KeepMoreFunctions old new
  pub reads_lines : ReadsAsked asks_lines old new
  pub reads_functions : ReadsAskedFunctions asks_functions old new

-- so after a lookup of an address that is resumed with answers to its loads
abbrev pub KeepsAfterLookup : {A : Type 0} → (AnsweredContext → ℕ → Lookup A)
    → (AnsweredContext → ℕ → ℕ → Type 0) → AnsweredContext → ℕ → List (Option DwarfFile)
    → List ResolvedUnit → List ResolvedUnit → Type 0
KeepsAfterLookup lookup asks c a files old new =
    KeepsAndReads (AsksAfterLoads lookup asks c a files) (AsksAfterLoads lookup asks c a files)
    old new

-- after a call
abbrev pub KeepsAfterCall : AnsweredContext → ContextCall → List ResolvedUnit
    → List ResolvedUnit → Type 0
KeepsAfterCall c k old new = KeepsAndReads (MayReadLines c k) (MayReadFunctions c k) old new

-- and after calls, one after the other
abbrev pub KeepsAfterCalls : AnsweredContext → List ContextCall → List ResolvedUnit
    → List ResolvedUnit → Type 0
KeepsAfterCalls c ks old new =
    KeepsAndReads (SomeMayRead MayReadLines c ks) (SomeMayRead MayReadFunctions c ks) old new

-- ---- out of memory

-- the first answers after a walk over some first units
abbrev pub SomeUnitsParsed : FileContext
    → (ContextUnit → FirstAnswer → Result (Unit {0}) Error) → FirstAnswers → FirstAnswers
    → Type 0
SomeUnitsParsed c parse old new =
    (n : ℕ) × (new ≡ (parse_from c parse 0 (take n c.context.units) old).1)

-- The first answers where memory is refused during a call, or for its copies: after some of its
-- loads, after some of its units, or those before it or after it.
abbrev pub LeavesPart : FileContext → Namings → ContextCall → ContextState → FirstAnswers
    → Type 0
LeavesPart c naming (find_frames a files) s new =
    SomeLoadsAnswered c (λ answers. frames c naming answers a) files s.answers new
LeavesPart c naming (find_unit a files) s new =
    SomeLoadsAnswered c (λ answers. unit c naming answers a) files s.answers new
LeavesPart c naming parse_functions s new =
    SomeUnitsParsed c (functions_or_refusal c) s.answers new
LeavesPart c naming parse_inlined_functions s new =
    SomeUnitsParsed c (calls_or_refusal c naming) s.answers new
LeavesPart c naming k s new =
    (new ≡ s.answers) ⊎ (new ≡ (call c naming k s).1.answers)

-- The first answers where memory is refused among calls on a context: those after some first calls
-- and a part of the next one.
pub record LeavesSome (c : AnsweredContext) (ks : List ContextCall) (new : FirstAnswers) : Type 0
  where
    pub done : List ContextCall
    pub next : ContextCall
    pub rest : List ContextCall
    pub are_calls : ks ≡ done ++ next ∷ rest
    pub part : LeavesPart c.plain (naming_in c.plain) next
        (state_after c.plain (naming_in c.plain) done (state_of c [])) new

-- The first answers after calls on a context, or those where memory was refused among them.
abbrev pub LeavesAnswers : {A : Type 0} → Result A Error → AnsweredContext → List ContextCall
    → FirstAnswers → Type 0
LeavesAnswers (Ok x) c ks new = new ≡ answers_after c ks
LeavesAnswers (Err e) c ks new = LeavesSome c ks new
