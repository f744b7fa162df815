-- Split units (DWARF 5, 3.1.2 and 3.1.3; before version 5 GNU's): where the functions of a unit are
-- in another file, that file is asked for, and the first answer decides which unit has them.
use Rattle.std.specs.Prelude.{ℕ, List, replicate, set, slice_get, Option, Some, None, option_and_then, Result, Ok, Err}
use Rattle.gimli_lines_machine.specs.Error.{Error}
use Rattle.gimli_lines_machine.specs.View.{View}
use Rattle.gimli_lines_machine.specs.Results.{◌>>=◌}
use Rattle.gimli_dwarf_spec.specs.Tiling.{whole_section}
use Rattle.gimli_dwarf_spec.specs.UnitHeaders.{DebugUnit, next_unit}
use Rattle.gimli_dwarf_spec.specs.Attributes.{attr_string}
use Rattle.gimli_dwarf_spec.specs.DwarfFiles.{DwarfFile}
use Rattle.gimli_dwarf_spec.specs.Splitting.{relocated_from}
use Rattle.gimli_dwarf_spec.specs.UnitFacts.{UnitFacts, UnitInFile, in_file, unit_facts, dwo_name}
use Rattle.addr2line_spec.specs.OptionalValues.{if_any}

-- ---- loads

-- What is asked for: the split part of a unit, by the identifier that both share, the unit's
-- directory and the name of the other file, where they are known; and the main file.
pub record SplitLoad : Type 0 where
  pub dwo_id : ℕ
  pub comp_dir : Option View
  pub path : Option View
  pub parent : DwarfFile

-- the name of the file that has a unit's split part, if the root says one
abbrev pub split_path : UnitInFile → Result (Option View) Error
split_path u = do
  name ← dwo_name u.file.offset_limit u.facts
  if_any (attr_string u.file u.facts.bases) name

-- the load of a unit with this identifier, or the refusal of that name
abbrev pub load_of_id : UnitInFile → ℕ → Result SplitLoad Error
load_of_id u id = do
  path ← split_path u
  Ok (record { dwo_id = id; comp_dir = u.facts.comp_dir; path = path; parent = u.file })

-- the load of a unit; none where it has no identifier, and so its functions itself
abbrev pub load_of : UnitInFile → Result (Option SplitLoad) Error
load_of u = if_any (load_of_id u) u.facts.dwo_id

-- ---- answers

-- What the answer to a load makes of its unit: the split unit that has its functions, none where it
-- has them itself, or a refusal.
abbrev pub FirstAnswer : Type 0
FirstAnswer = Result (Option UnitInFile) Error

-- the unit of a header of the other file, with what the main file's unit alone names
abbrev pub split_unit : UnitFacts → DwarfFile → DebugUnit → Result UnitInFile Error
split_unit main file h = do
  facts ← unit_facts file h
  Ok (in_file file (relocated_from main facts))

-- the first unit of the other file, if it has one
abbrev pub first_unit : UnitFacts → DwarfFile → FirstAnswer
first_unit main file = do
  next ← next_unit file.offset_limit (whole_section file.sections.debug_info)
  if_any (split_unit main file) next.0

-- what the other file makes of a unit, if there is such a file
abbrev pub answer_of : UnitFacts → Option DwarfFile → FirstAnswer
answer_of main None = Ok None
answer_of main (Some file) = first_unit main file

-- ---- units and their first answers

-- the first answer to each unit's load, by the units' numbers; none where there was no answer
abbrev pub FirstAnswers : Type 0
FirstAnswers = List (Option FirstAnswer)

-- before all answers
abbrev pub no_answers : ℕ → FirstAnswers
no_answers count = replicate count None

-- that of a unit
abbrev pub recorded_answer : FirstAnswers → ℕ → Option FirstAnswer
recorded_answer answers number = option_and_then (λ x. x) (slice_get answers number)

-- a load without an answer, and the number of its unit
pub record PendingLoad : Type 0 where
  pub number : ℕ
  pub load : SplitLoad

-- what is found by the first answers, or the first load that needs an answer before
pub data Lookup (A : Type 0) : Type 0 where
  output : A → Lookup A
  pending : PendingLoad → Lookup A

-- What decides a unit: nothing where it has no load, the refusal where its load is refused, and
-- else its first answer. Without one the load is pending.
abbrev pub decision : ℕ → Result (Option SplitLoad) Error → Option FirstAnswer
    → Lookup FirstAnswer
decision number (Ok None) recorded = output (Ok None)
decision number (Err e) recorded = output (Err e)
decision number (Ok (Some load)) (Some first) = output first
decision number (Ok (Some load)) None = pending (record { number = number; load = load })

-- what decides a unit, or else what a later answer makes of it
abbrev pub first_or : Lookup FirstAnswer → FirstAnswer → FirstAnswer
first_or (output first) later = first
first_or (pending p) later = later

-- with a later answer to a load; a unit that is decided stays as it is
abbrev pub with_answer : Lookup FirstAnswer → FirstAnswer → FirstAnswers → FirstAnswers
with_answer (output first) later answers = answers
with_answer (pending p) later answers = set answers p.number (Some later)
