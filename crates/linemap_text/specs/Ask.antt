-- What `ask` prints, and how it reports that it stops before its end.
use Rattle.std.specs.Prelude.{◌≡◌, ◌⊎◌, ◌≤◌, ◌^◌, ℕ, List, [], true, false, ⊤, Option, Result, Ok, Err, codes, nat_lt, if◌then◌else◌}
use Rattle.linemap_emit.specs.TableParts.{UnitPart}
use Rattle.linemap_emit.specs.AnswerTexts.{ask_text}
use Rattle.linemap_emit.specs.TableWeight.{table_weight}
use Rattle.linemap_emit.specs.declared.error.EmitError.{EmitError}
use Rattle.linemap_emit.specs.declared.error.EmitError.TheVariants.{Memory as NoRoom, TooLarge as TooHeavy}
use Rattle.linemap_output.specs.ErrorLine.{EndsAtFault, Fails, emission_line, error_line, table_line}
use Rattle.linemap_output.specs.Outcome.{Outcome}
use Rattle.linemap_output.specs.declared.ended.Ended.{Ended}
use Rattle.linemap_output.specs.declared.writing.WriteFault.{WriteFault}
use Rattle.linemap_emit.specs.TableErrorCodes.{table_error_code}
use Rattle.linemap_emit.specs.TableInText.{table_in}
use Rattle.linemap_emit.specs.TableError.{TableError}
use Rattle.linemap_emit.specs.TableError.TheVariants.{Memory as NoMemory}
use Rattle.linemap_text.specs.declared.stops.MemoryUse.{MemoryUse}
use Rattle.linemap_text.specs.declared.stops.MemoryUse.TheVariants as memory
use Rattle.linemap_text.specs.declared.stops.Stop.{Stop}
use Rattle.linemap_text.specs.declared.stops.Stop.TheVariants.{Memory, Table, TooLarge, Output}

-- ---- what is printed

abbrev pub refusal : List ℕ → Outcome
refusal line = record { out = []; err = line; status = 1 }

-- the answers, unless the table weighs 2^31 or more
abbrev pub outcome_of : Result (List UnitPart) TableError → List (List ℕ) → Outcome
outcome_of (Err e) words = refusal (table_line (table_error_code e))
outcome_of (Ok units) words = if nat_lt (table_weight units) (2 ^ 31)
    then record { out = ask_text units words; err = []; status = 0 }
    else refusal (emission_line (codes "M2"))

-- what `ask` prints for the text of a table and for words
abbrev pub ask_outcome : List ℕ → List (List ℕ) → Outcome
ask_outcome text words = outcome_of (table_in text) words

-- ---- what stops it

-- nothing outside the program went wrong
abbrev pub IsClean : Ended → Type 0
IsClean e = (e.memory ≡ false) × (e.read ≡ false) × (e.write ≡ false)

-- memory that is refused for a table is not a refusal of the table
abbrev pub table_stop : TableError → Stop
table_stop NoMemory = Memory memory.Table
table_stop e = Table e

-- nor is a table that is too large one that memory is refused for
abbrev pub emission_stop : EmitError → Stop
emission_stop NoRoom = Memory memory.Emission
emission_stop TooHeavy = TooLarge

-- emission stops when out of memory, or where a table is too heavy
abbrev pub EmissionStops : List UnitPart → Stop → Type 0
EmissionStops us (Memory what) = what ≡ memory.Emission
EmissionStops us (Table e) = ⊥
EmissionStops us TooLarge = 2 ^ 31 ≤ table_weight us
EmissionStops us (Output fault) = ⊥

-- only out of memory and a fault of the writer stop the answers
abbrev pub StopsWriting : Stop → Type 0
StopsWriting (Memory what) = ⊤
StopsWriting (Table e) = ⊥
StopsWriting TooLarge = ⊥
StopsWriting (Output fault) = ⊤

-- the text is a table: there are answers to print, or the table is refused for its weight
abbrev pub EmitsTable : Outcome → Type 0
EmitsTable p = (p.status ≡ 0) ⊎ (p ≡ refusal (emission_line (codes "M2")))

-- memory may be refused for the table, then for its sections, and, where there are answers to
-- print, for the context and the answers
abbrev pub MayRefuse : Outcome → MemoryUse → Type 0
MayRefuse p memory.Table = ⊤
MayRefuse p memory.Emission = EmitsTable p
MayRefuse p memory.Context = p.status ≡ 0
MayRefuse p memory.Answers = p.status ≡ 0

-- a refusal is the one that `ask` prints, and nothing is written before it
abbrev pub StopsAt : Outcome → Stop → Type 0
StopsAt p (Memory what) = MayRefuse p what
StopsAt p (Table e) = p ≡ refusal (table_line (table_error_code e))
StopsAt p TooLarge = p ≡ refusal (emission_line (codes "M2"))
StopsAt p (Output fault) = p.status ≡ 0

-- ---- how it is reported

-- the error line of memory that is refused
abbrev pub memory_line : MemoryUse → List ℕ
memory_line memory.Table = table_line (codes "B1")
memory_line memory.Emission = emission_line (codes "M1")
memory_line memory.Context = error_line (codes "failed to load debug info: ") (codes "E1")
memory_line memory.Answers = error_line (codes "out of memory") []

-- out of memory and a fault of the output set their flags; each refusal has its error line
abbrev pub Reports : Stop → Option (List ℕ) → Option (List ℕ) → Ended → Type 0
Reports (Memory what) old new e = Fails (memory_line what) old new e × (e.memory ≡ true)
Reports (Table error) old new e =
    Fails (table_line (table_error_code error)) old new e × (e.memory ≡ false)
Reports TooLarge old new e = Fails (emission_line (codes "M2")) old new e × (e.memory ≡ false)
Reports (Output fault) old new e = EndsAtFault fault old new e

-- the error stream failed while the refusal was written, or the output failed
abbrev pub EndsAtWrite : Outcome → Option (List ℕ) → Option (List ℕ) → Ended → Type 0
EndsAtWrite p old new e =
    ((p.status ≡ 1) × Fails p.err old new e)
    ⊎ ((p.status ≡ 0) × ((fault : WriteFault) × EndsAtFault fault old new e))

-- memory was refused for one of its uses
abbrev pub EndsForMemory : Outcome → Option (List ℕ) → Option (List ℕ) → Ended → Type 0
EndsForMemory p old new e =
    (what : MemoryUse) × MayRefuse p what × Fails (memory_line what) old new e

-- the status and the error line that each flag means; nothing is read
pub record FlagsMean (p : Outcome) (old new : Option (List ℕ)) (e : Ended) : Type 0 where
  pub memory : e.memory ≡ true → EndsForMemory p old new e
  pub write : e.memory ≡ false → e.write ≡ true → EndsAtWrite p old new e
  pub read : e.read ≡ false
