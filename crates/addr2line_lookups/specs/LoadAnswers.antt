-- Answers to the loads of units, by the units' numbers.
use Rattle.std.specs.Prelude.{◌≡◌, ◌⊎◌, ℕ, List, set, slice_get, Option, Some, None, Result, Ok, Err}
use Rattle.addr2line_unit.specs.Error.{Error}
use Rattle.addr2line_unit.specs.Error.TheVariants.{Memory, NoSuchUnit}
use Rattle.addr2line_unit.specs.Results.{and_then}
use Rattle.addr2line_unit.specs.DwarfFiles.{DwarfFile}
use Rattle.addr2line_unit.specs.FirstAnswers.{answer_of}
use Rattle.addr2line_unit.specs.ResolvedUnits.{AnsweredUnit, first_answer, with_unit_answer}

-- ---- results

-- The result that a definition gives, and what it leaves; or out of memory, and nothing changes.
abbrev pub AnswersOrNoMemory : {S : Type 0} → Result (Unit {0}) Error → S → S
    → Result (Unit {0}) Error × S → Type 0
AnswersOrNoMemory result old new meaning =
    (meaning ≡ (result, new)) ⊎ ((result ≡ Err Memory) × (new ≡ old))

-- ---- one unit

-- whether what decides a unit is a refusal
abbrev pub check_unit : AnsweredUnit → Result (Unit {0}) Error
check_unit v = and_then (first_answer v) (λ split. Ok tt)

-- a unit after an answer to its load
abbrev pub unit_after : Option DwarfFile → AnsweredUnit → AnsweredUnit
unit_after file v = with_unit_answer (answer_of v.unit.facts file) v

-- an answer to the load of a unit
abbrev pub answer_unit : AnsweredUnit → Option DwarfFile
    → Result (Unit {0}) Error × AnsweredUnit
answer_unit v file = (check_unit (unit_after file v), unit_after file v)

-- ---- units

-- an answer to the load of the unit of a number, if there is such a unit
abbrev pub answer_among : List AnsweredUnit → ℕ → Option AnsweredUnit → Option DwarfFile
    → Result (Unit {0}) Error × List AnsweredUnit
answer_among vs number None file = (Err NoSuchUnit, vs)
answer_among vs number (Some v) file =
    (check_unit (unit_after file v), set vs number (unit_after file v))

abbrev pub answer_at : List AnsweredUnit → ℕ → Option DwarfFile
    → Result (Unit {0}) Error × List AnsweredUnit
answer_at vs number file = answer_among vs number (slice_get vs number) file
