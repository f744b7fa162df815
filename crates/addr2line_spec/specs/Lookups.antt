-- Lookups under first answers: what the units with a range over an address answer, one after the
-- other, until one of them knows something or its load is pending.
use Rattle.std.specs.Prelude.{ℕ, ◌==◌, Bool, true, false, not, List, [], ◌∷◌, length, map, filter, replicate, slice_get, Option, Some, None, Result, Ok, Err, if◌then◌else◌}
use Rattle.std.specs.List.{filter_map}
use Rattle.gimli_lines_machine.specs.Error.{Error}
use Rattle.gimli_lines_machine.specs.Error.TheVariants.{NoSuchUnit}
use Rattle.gimli_lines_machine.specs.Results.{and_then, ◌>>=◌}
use Rattle.gimli_dwarf_spec.specs.DwarfFiles.{DwarfFile}
use Rattle.gimli_dwarf_spec.specs.UnitFacts.{UnitInFile, in_file}
use Rattle.addr2line_spec.specs.Pairs.{covering_pairs}
use Rattle.addr2line_spec.specs.InlinedCalls.{Naming}
use Rattle.addr2line_spec.specs.Frames.{Frame, frames_of_unit}
use Rattle.addr2line_spec.specs.FirstAnswers.{FirstAnswer, FirstAnswers, PendingLoad, Lookup, output, pending, load_of, answer_of, recorded_answer, decision, first_or, with_answer}
use Rattle.addr2line_spec.specs.Contexts.{ContextUnit, FileContext, ranges_of}

-- ---- one after the other

abbrev pub map_output : {A B : Type 0} → (A → B) → Lookup A → Lookup B
map_output f (output x) = output (f x)
map_output f (pending p) = pending p

-- the first that is something, or pending; nothing where none is
abbrev pub first_output : {A : Type 0} → (A → Bool) → A → List (Lookup A) → Lookup A
first_output is_something nothing [] = output nothing
first_output is_something nothing (pending p ∷ rest) = pending p
first_output is_something nothing (output x ∷ rest) =
    if is_something x then output x else first_output is_something nothing rest

-- ---- units

-- a unit of a context in its file
abbrev pub unit_in : FileContext → ContextUnit → UnitInFile
unit_in c u = in_file c.file u.facts

-- what decides the unit of a number
abbrev pub decision_of : FileContext → FirstAnswers → ℕ → ContextUnit → Lookup FirstAnswer
decision_of c answers number u =
    decision number (load_of (unit_in c u)) (recorded_answer answers number)

-- the units with a range over an address, in their order, each with what is asked of it and of its
-- first answer
abbrev pub ask_covering : {A : Type 0} → (ContextUnit → FirstAnswer → A) → FileContext
    → FirstAnswers → ℕ → List (Lookup A)
ask_covering ask c answers a =
    map (λ p. map_output (ask p.unit) (decision_of c answers p.number p.unit))
    (covering_pairs ranges_of c.context.units a)

-- ---- functions

-- the unit that counts for functions, and whether it is one of a split file
pub record FunctionsUnit : Type 0 where
  pub is_split : Bool
  pub unit : UnitInFile

-- the split unit, or the unit itself where there is none
abbrev pub split_or_itself : UnitInFile → Option UnitInFile → FunctionsUnit
split_or_itself u None = record { is_split = false; unit = u }
split_or_itself u (Some split) = record { is_split = true; unit = split }

-- that of a unit under its first answer, if this isn't a refusal
abbrev pub functions_unit : FileContext → ContextUnit → FirstAnswer
    → Result FunctionsUnit Error
functions_unit c u first = do
  split ← first
  Ok (split_or_itself (unit_in c u) split)

-- how the names of functions and calls are found in each such unit
abbrev pub Namings : Type 0
Namings = FunctionsUnit → Naming

-- the frames of an address in the functions of a unit; language and lines are the main file's
abbrev pub frames_by : Namings → ContextUnit → ℕ → FunctionsUnit
    → Result (List Frame) Error
frames_by naming u a f = frames_of_unit f.unit (naming f) u.language u.lines a

-- The frames of an address in a unit, or the refusal of its first answer, of its functions, of the
-- function that holds the address, or of its lines, in this order.
abbrev pub frames_under : FileContext → Namings → ℕ → ContextUnit → FirstAnswer
    → Result (List Frame) Error
frames_under c naming a u first = do
  f ← functions_unit c u first
  frames_by naming u a f

abbrev pub has_frames : Result (List Frame) Error → Bool
has_frames (Ok (f ∷ fs)) = true
has_frames _ = false

-- a unit that counts for functions, if it has frames and nothing is refused
abbrev pub unit_with_frames : (FunctionsUnit → Result (List Frame) Error)
    → Result FunctionsUnit Error → Option UnitInFile
unit_with_frames frames_in (Err e) = None
unit_with_frames frames_in (Ok f) = if has_frames (frames_in f) then Some f.unit else None

-- that of a unit under its first answer
abbrev pub unit_under : FileContext → Namings → ℕ → ContextUnit → FirstAnswer
    → Option UnitInFile
unit_under c naming a u first =
    unit_with_frames (frames_by naming u a) (functions_unit c u first)

-- ---- lookups

-- a refusal, or at least one frame
abbrev pub is_answer : Result (List Frame) Error → Bool
is_answer (Ok []) = false
is_answer _ = true

-- the frames of an address: those of the first unit that has some, unless one is refused before
abbrev pub frames : FileContext → Namings → FirstAnswers → ℕ
    → Lookup (Result (List Frame) Error)
frames c naming answers a =
    first_output is_answer (Ok []) (ask_covering (frames_under c naming a) c answers a)

abbrev pub is_there : Option UnitInFile → Bool
is_there None = false
is_there (Some u) = true

-- the first unit with a function or a place for an address, whatever is refused before
abbrev pub unit : FileContext → Namings → FirstAnswers → ℕ → Lookup (Option UnitInFile)
unit c naming answers a =
    first_output is_there None (ask_covering (unit_under c naming a) c answers a)

-- ---- loads

abbrev pub load_in : {A : Type 0} → Lookup A → Option PendingLoad
load_in (output x) = None
load_in (pending p) = Some p

abbrev pub other_than : ℕ → PendingLoad → Bool
other_than number p = not (p.number == number)

-- of several loads of one unit the first
abbrev pub one_each : List PendingLoad → List PendingLoad
one_each [] = []
one_each (p ∷ ps) = p ∷ filter (other_than p.number) (one_each ps)

-- the pending loads of the units with a range over an address, in their order, that of each unit
-- once
abbrev pub loads : FileContext → FirstAnswers → ℕ → List PendingLoad
loads c answers a =
    one_each (filter_map load_in (ask_covering (λ u first. first) c answers a))

-- ---- answers to loads

-- An answer to the load of a unit: whether what decides the unit is a refusal, and the first
-- answers from then on.
abbrev pub answer_unit : FileContext → FirstAnswers → ℕ → ContextUnit → Option DwarfFile
    → Result (Unit {0}) Error × FirstAnswers
answer_unit c answers number u file =
    let decided = decision_of c answers number u in
    let later = answer_of u.facts file in
    (and_then (first_or decided later) (λ split. Ok tt), with_answer decided later answers)

abbrev pub answer_unit_if_any : FileContext → FirstAnswers → ℕ → Option ContextUnit
    → Option DwarfFile → Result (Unit {0}) Error × FirstAnswers
answer_unit_if_any c answers number None file = (Err NoSuchUnit, answers)
answer_unit_if_any c answers number (Some u) file = answer_unit c answers number u file

-- an answer to the load of the unit of a number
abbrev pub answer_load : FileContext → FirstAnswers → ℕ → Option DwarfFile
    → Result (Unit {0}) Error × FirstAnswers
answer_load c answers number file =
    answer_unit_if_any c answers number (slice_get c.context.units number) file

abbrev pub if_output : {A B : Type 0} → Lookup A → (A → B) → (PendingLoad → B) → B
if_output (output x) found wait = found x
if_output (pending p) found wait = wait p

-- A lookup that is resumed with an answer to each load in turn, and the first answers after it. It
-- stays pending where there are more loads than answers.
abbrev pub resume : {A : Type 0} → FileContext → (FirstAnswers → Lookup A)
    → List (Option DwarfFile) → FirstAnswers → Lookup A × FirstAnswers
resume c lookup [] answers = (lookup answers, answers)
resume c lookup (file ∷ files) answers =
    if_output (lookup answers) (λ x. (output x, answers)) (λ p.
    resume c lookup files (answer_load c answers p.number file).1)

-- a lookup whose loads are all answered by no file
abbrev pub without_loads : {A : Type 0} → FileContext → (FirstAnswers → Lookup A)
    → FirstAnswers → Lookup A × FirstAnswers
without_loads c lookup answers =
    resume c lookup (replicate (length c.context.units) None) answers
