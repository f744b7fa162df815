-- Calls on one context, one after the other. Each is answered by the first answers that those
-- before it left; nothing else of them matters.
use Rattle.std.specs.Prelude.{ℕ, ◌+◌, List, [], ◌∷◌, map, length, slice_get, Option, Some, None, Result, Ok, Err}
use Rattle.gimli_lines_machine.specs.Error.{Error}
use Rattle.gimli_lines_machine.specs.Repetition.{Listing}
use Rattle.gimli_lines_machine.specs.Results.{each, ◌>>=◌}
use Rattle.gimli_dwarf_spec.specs.DwarfFiles.{DwarfFile}
use Rattle.gimli_dwarf_spec.specs.UnitFacts.{UnitInFile}
use Rattle.addr2line_spec.specs.Lines.{Location, Stretch}
use Rattle.addr2line_spec.specs.Functions.{functions_of_unit}
use Rattle.addr2line_spec.specs.InlinedCalls.{calls_of_function}
use Rattle.addr2line_spec.specs.Frames.{Frame}
use Rattle.addr2line_spec.specs.FirstAnswers.{SplitLoad, FirstAnswer, FirstAnswers, Lookup, output, pending, no_answers, first_or, with_answer}
use Rattle.addr2line_spec.specs.Contexts.{ContextUnit, FileContext, location, stretches, all_lines_or_refusal}
use Rattle.addr2line_spec.specs.Lookups.{Namings, decision_of, functions_unit, frames, unit, loads, answer_load, resume}

-- ---- parsing ahead

-- whether the functions of a unit can be read
abbrev pub functions_or_refusal : FileContext → ContextUnit → FirstAnswer
    → Result (Unit {0}) Error
functions_or_refusal c u first = do
  f ← functions_unit c u first
  functions ← functions_of_unit f.unit
  Ok tt

-- whether they can be read with the calls that are inlined into them
abbrev pub calls_or_refusal : FileContext → Namings → ContextUnit → FirstAnswer
    → Result (Unit {0}) Error
calls_or_refusal c naming u first = do
  f ← functions_unit c u first
  functions ← functions_of_unit f.unit
  calls ← each (λ g. calls_of_function f.unit (naming f) g.offset) functions
  Ok tt

-- a refusal ends a walk over the units
abbrev pub unless_refused : Result (Unit {0}) Error → FirstAnswers
    → (FirstAnswers → Result (Unit {0}) Error × FirstAnswers)
    → Result (Unit {0}) Error × FirstAnswers
unless_refused (Ok x) answers rest = rest answers
unless_refused (Err e) answers rest = (Err e, answers)

-- Units numbered from a number on, read up to the first refusal. A load that is pending where the
-- walk comes to its unit is answered by no file.
abbrev pub parse_from : FileContext → (ContextUnit → FirstAnswer → Result (Unit {0}) Error)
    → ℕ → List ContextUnit → FirstAnswers → Result (Unit {0}) Error × FirstAnswers
parse_from c parse number [] answers = (Ok tt, answers)
parse_from c parse number (u ∷ us) answers =
    let decided = decision_of c answers number u in
    unless_refused (parse u (first_or decided (Ok None)))
    (with_answer decided (Ok None) answers) (parse_from c parse (number + 1) us)

-- all units of a context
abbrev pub parse_all : FileContext → (ContextUnit → FirstAnswer → Result (Unit {0}) Error)
    → FirstAnswers → Result (Unit {0}) Error × FirstAnswers
parse_all c parse answers = parse_from c parse 0 c.context.units answers

-- ---- calls

-- A call, with what its loads are answered. A token is named by its place among those of the last
-- preload.
pub data ContextCall : Type 0 where
  find_location : (probe : ℕ) → ContextCall
  find_frames : (probe : ℕ) (files : List (Option DwarfFile)) → ContextCall
  find_unit : (probe : ℕ) (files : List (Option DwarfFile)) → ContextCall
  find_location_range : (low high : ℕ) → ContextCall
  preload_units : (probe : ℕ) → ContextCall
  answer_token : (place : ℕ) (file : Option DwarfFile) → ContextCall
  parse_lines : ContextCall
  parse_functions : ContextCall
  parse_inlined_functions : ContextCall

-- What a call answers. A lookup is suspended where a load is still pending at its end.
pub data CallAnswer : Type 0 where
  location_answer : Result (Option Location) Error → CallAnswer
  frames_answer : Result (List Frame) Error → CallAnswer
  unit_answer : Option UnitInFile → CallAnswer
  stretches_answer : Listing (Unit {0}) Stretch → CallAnswer
  loads_answer : List SplitLoad → CallAnswer
  completion : Result (Unit {0}) Error → CallAnswer
  suspension : CallAnswer
  no_token : CallAnswer

-- what calls leave: the first answers, and the units whose tokens the last preload gave
pub record ContextState : Type 0 where
  pub answers : FirstAnswers
  pub tokens : List ℕ

abbrev pub with_answers : ContextState → FirstAnswers → ContextState
with_answers s answers = record s { answers = answers }

abbrev pub answer_or_suspension : {A : Type 0} → (A → CallAnswer) → Lookup A → CallAnswer
answer_or_suspension kind (output x) = kind x
answer_or_suspension kind (pending p) = suspension

-- a lookup with the answers to its loads
abbrev pub lookup_call : {A : Type 0} → FileContext → (A → CallAnswer)
    → (FirstAnswers → Lookup A)
    → List (Option DwarfFile) → ContextState → CallAnswer × ContextState
lookup_call c kind lookup files s =
    let r = resume c lookup files s.answers in (answer_or_suspension kind r.0, with_answers s r.1)

abbrev pub complete : ContextState → Result (Unit {0}) Error × FirstAnswers
    → CallAnswer × ContextState
complete s r = (completion r.0, with_answers s r.1)

-- the load of the unit of a token is answered
abbrev pub token_call : FileContext → Option ℕ → Option DwarfFile → ContextState
    → CallAnswer × ContextState
token_call c None file s = (no_token, s)
token_call c (Some number) file s = complete s (answer_load c s.answers number file)

-- a call's answer, and what it leaves
abbrev pub call : FileContext → Namings → ContextCall → ContextState
    → CallAnswer × ContextState
call c naming (find_location a) s = (location_answer (location c.context a), s)
call c naming (find_frames a files) s =
    lookup_call c frames_answer (λ answers. frames c naming answers a) files s
call c naming (find_unit a files) s =
    lookup_call c unit_answer (λ answers. unit c naming answers a) files s
call c naming (find_location_range low high) s =
    (stretches_answer (stretches c.context low high), s)
call c naming (preload_units a) s =
    let ps = loads c s.answers a in (
      loads_answer (map (λ p. p.load) ps),
      record { answers = s.answers; tokens = map (λ p. p.number) ps },
    )
call c naming (answer_token place file) s = token_call c (slice_get s.tokens place) file s
call c naming parse_lines s = (completion (all_lines_or_refusal c.context.units), s)
call c naming parse_functions s = complete s (parse_all c (functions_or_refusal c) s.answers)
call c naming parse_inlined_functions s =
    complete s (parse_all c (calls_or_refusal c naming) s.answers)

-- ---- histories

-- a context that was made just now
abbrev pub fresh : FileContext → ContextState
fresh c = record { answers = no_answers (length c.context.units); tokens = [] }

-- the answers of calls, one after the other
abbrev pub history_from : FileContext → Namings → List ContextCall → ContextState
    → List CallAnswer
history_from c naming [] s = []
history_from c naming (k ∷ ks) s =
    let r = call c naming k s in r.0 ∷ history_from c naming ks r.1

abbrev pub history : FileContext → Namings → List ContextCall → List CallAnswer
history c naming ks = history_from c naming ks (fresh c)
