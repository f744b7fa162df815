-- Lookups of a context under its own first answers, and what answers to their loads leave.
use Rattle.std.specs.Prelude.{◌≡◌, ◌⊎◌, ℕ, ◌<◌, List, [], ◌∷◌, length, Option, Result, Ok, Err}
use Rattle.addr2line_lookups.specs.Error.{Error}
use Rattle.addr2line_lookups.specs.Error.TheVariants.{Memory}
use Rattle.addr2line_lookups.specs.Calls.{ReturnsOrNoMemory}
use Rattle.addr2line_lookups.specs.DwarfFiles.{DwarfFile}
use Rattle.addr2line_lookups.specs.UnitFacts.{UnitInFile}
use Rattle.addr2line_lookups.specs.Frames.{Frame}
use Rattle.addr2line_lookups.specs.FirstAnswers.{FirstAnswers, PendingLoad, SplitLoad, Lookup}
use Rattle.addr2line_lookups.specs.Lookups.{frames, unit, loads, answer_load}
use Rattle.addr2line_lookups.specs.ContextNames.{naming_in}
use Rattle.addr2line_lookups.specs.KeptUnits.{ReadsAsked, ReadsAskedFunctions}
use Rattle.addr2line_lookups.specs.LookupCosts.{AtMostLooks}
use Rattle.addr2line_lookups.specs.PassedUnits.{KeepsAskedFunctions}
use Rattle.addr2line_context.specs.AnsweredContexts.{AnsweredContext}
use Rattle.addr2line_context.specs.KeptContexts.{ResolvedContext}
use Rattle.addr2line_context.specs.ContextCosts.{Search, AfterSearch}
use Rattle.addr2line_context.specs.Suspended.{HasMemory}
use Rattle.addr2line_context.specs.declared.lookup.LookupResult.{LookupResult}
use Rattle.addr2line_context.specs.declared.lookup.LookupResult.TheVariants.{Output}

-- ---- lookups

-- the frames of an address
abbrev pub frames_in : AnsweredContext → ℕ → Lookup (Result (List Frame) Error)
frames_in c a = frames c.plain (naming_in c.plain) c.answers a

-- the unit of an address, as a lookup that nothing refuses
abbrev pub unit_in : AnsweredContext → ℕ → Lookup (Option UnitInFile)
unit_in c a = unit c.plain (naming_in c.plain) c.answers a

-- the loads that lookups of an address may wait for
abbrev pub loads_in : AnsweredContext → ℕ → List PendingLoad
loads_in c a = loads c.plain c.answers a

-- ---- answers

-- the first answers after one to the first of some loads
abbrev pub answers_with_first : AnsweredContext → List PendingLoad → Option DwarfFile
    → FirstAnswers
answers_with_first c [] file = c.answers
answers_with_first c (p ∷ rest) file = (answer_load c.plain c.answers p.number file).1

-- a context after an answer to the first load of an address
abbrev pub after_answer : AnsweredContext → ℕ → Option DwarfFile → AnsweredContext
after_answer c a file = record c { answers = answers_with_first c (loads_in c a) file }

-- that answer is recorded, or nothing changes
abbrev pub LeavesAnswer : AnsweredContext → ℕ → Option DwarfFile → AnsweredContext → Type 0
LeavesAnswer c a file new = (new ≡ after_answer c a file) ⊎ (new ≡ c)

-- That answer is recorded by a lookup that goes on with this result; or that is out of memory, and
-- nothing changes.
abbrev pub RecordsAnswer : {L X B W S E F : Type 0} → LookupResult L (Result X Error) B W S E F
    → AnsweredContext → ℕ → Option DwarfFile → AnsweredContext → Type 0
RecordsAnswer result c a file new =
    (new ≡ after_answer c a file) ⊎ ((result ≡ Output (Err Memory)) × (new ≡ c))

-- A context after an answer to the first load of an address, and after the lookup that goes on
-- there with this result. It reads lines and functions of no units but those that it asks after
-- that answer. Unless it is out of memory, the functions of these are kept, but of one whose load
-- needs an answer.
pub record AfterAnswer {L X B W S E F : Type 0} (search : Search)
    (result : LookupResult L (Result X Error) B W S E F) (old : ResolvedContext) (a : ℕ)
    (file : Option DwarfFile) (new : ResolvedContext) : Type 0 where
  pub value : RecordsAnswer result old.value a file new.value
  pub cost : AtMostLooks (search.looks (after_answer old.value a file) a) old.units new.units
  pub reads : ReadsAsked (search.asks (after_answer old.value a file) a) old.units new.units
  pub functions : ReadsAskedFunctions (search.asks (after_answer old.value a file) a)
      old.units new.units
  pub asked : HasMemory result
      → KeepsAskedFunctions (search.asks (after_answer old.value a file) a) new.units

-- ---- lookups that wait

-- a lookup waits in the context that it found, at an address that has a load
pub record IsFor (search : Search) (old : ResolvedContext) (a : ℕ)
    (now : ResolvedContext) (probe : ℕ) : Type 0 where
  pub after : AfterSearch search (Unit {0}) a old now
  pub place : probe ≡ a
  pub has_load : 0 < length (loads_in old.value a)

-- one that waits again: at its address, in the context after an answer to the first load
pub record WaitsAgain (search : Search) (old : ResolvedContext) (a : ℕ)
    (file : Option DwarfFile) (now : ResolvedContext) (probe : ℕ) : Type 0 where
  pub value : now.value ≡ after_answer old.value a file
  pub cost : AtMostLooks (search.looks (after_answer old.value a file) a) old.units now.units
  pub reads : ReadsAsked (search.asks (after_answer old.value a file) a) old.units now.units
  pub functions : ReadsAskedFunctions (search.asks (after_answer old.value a file) a)
      old.units now.units
  pub asked : KeepsAskedFunctions (search.asks (after_answer old.value a file) a) now.units
  pub place : probe ≡ a

-- the first of some loads, or out of memory
abbrev pub LoadOf : List PendingLoad → Result SplitLoad Error → Type 0
LoadOf [] result = ⊥
LoadOf (p ∷ rest) result = ReturnsOrNoMemory result (Ok p.load)
