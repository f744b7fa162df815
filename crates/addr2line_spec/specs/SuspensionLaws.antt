-- What follows from the definitions of first answers and of lookups: how often a lookup waits.
use Rattle.std.specs.Prelude.{◌≡◌, ℕ, ◌<◌, List, ◌∷◌, All, length, filter, Option, None, Result, Ok}
use Rattle.gimli_lines_machine.specs.Error.{Error}
use Rattle.gimli_dwarf_spec.specs.DwarfFiles.{DwarfFile}
use Rattle.addr2line_spec.specs.Frames.{Frame}
use Rattle.addr2line_spec.specs.FrameLookups.{frames_at}
use Rattle.addr2line_spec.specs.FirstAnswers.{FirstAnswer, FirstAnswers, PendingLoad, output, pending, with_answer}
use Rattle.addr2line_spec.specs.Contexts.{ContextUnit, FileContext, ranges_of}
use Rattle.addr2line_spec.specs.Lookups.{Namings, frames_under, frames, unit, loads, other_than, answer_load}

-- the first of the loads, if the lookup is pending
abbrev pub IsFirstOf : List PendingLoad → PendingLoad → Type 0
IsFirstOf ps p = (rest : List PendingLoad) × (ps ≡ p ∷ rest)

-- A lookup that is pending waits for the first of the loads; so it never waits where there are
-- none.
abbrev pub WaitsForTheFirstLoad : Type 0
WaitsForTheFirstLoad =
    (c : FileContext) (naming : Namings) (answers : FirstAnswers) (a : ℕ) (p : PendingLoad)
    → (frames c naming answers a ≡ pending p → IsFirstOf (loads c answers a) p)
    × (unit c naming answers a ≡ pending p → IsFirstOf (loads c answers a) p)

-- An answer to a load takes that unit's load from those of every address, and no other.
abbrev pub AnswerTakesOneLoad : Type 0
AnswerTakesOneLoad =
    (c : FileContext) (answers : FirstAnswers) (a : ℕ) (p : PendingLoad) (first : FirstAnswer)
    → p.number < length answers
    → loads c (with_answer (pending p) first answers) a
    ≡ filter (other_than p.number) (loads c answers a)

-- nothing is asked for where a unit's root and header name no split part
abbrev pub HasNoSplitPart : ContextUnit → Type 0
HasNoSplitPart u = u.facts.dwo_id ≡ None

-- the frames of an address in a unit that has its functions itself
abbrev pub frames_of_itself : FileContext → Namings → ContextUnit → ℕ
    → Result (List Frame) Error
frames_of_itself c naming u a = frames_under c naming a u (Ok None)

-- Where no unit has a split part, lookups have their output at once: the frames of the first unit
-- that has some, whatever was answered.
abbrev pub NoSplitPartNoWait : Type 0
NoSplitPartNoWait =
    (c : FileContext) (naming : Namings) (answers : FirstAnswers) (a : ℕ)
    → All HasNoSplitPart c.context.units
    → frames c naming answers a
    ≡ output (frames_at ranges_of (frames_of_itself c naming) c.context.units a)

-- After an answer a second one changes nothing, and both calls say the same.
abbrev pub SecondAnswerIsIgnored : Type 0
SecondAnswerIsIgnored =
    (c : FileContext) (answers : FirstAnswers) (number : ℕ) (file later : Option DwarfFile)
    → number < length answers
    → answer_load c (answer_load c answers number file).1 number later
    ≡ answer_load c answers number file
