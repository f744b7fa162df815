-- Calls on a context that name the answers to loads by their places in a list.
use Rattle.std.specs.Prelude.{◌≡◌, ℕ, ◌≤◌, All, List, [], ◌∷◌, map, slice_get, Option, option_and_then}
use Rattle.addr2line_context.specs.DwarfFiles.{DwarfFile}
use Rattle.addr2line_context.specs.AnsweredContexts.{AnsweredContext}
use Rattle.addr2line_context.specs.ContextNames.{naming_in}
use Rattle.addr2line_context.specs.Contexts.{FileContext}
use Rattle.addr2line_context.specs.FirstAnswers.{SplitLoad, PendingLoad, FirstAnswers, Lookup, pending}
use Rattle.addr2line_context.specs.ResolvedUnits.{ResolvedUnit, runs_of_unit}
use Rattle.addr2line_context.specs.Lookups.{Namings, resume}
use Rattle.addr2line_context.specs.Histories.{ContextCall, find_location, find_frames, find_unit, find_location_range, preload_units, answer_token, parse_lines, parse_functions, parse_inlined_functions, CallAnswer, ContextState, call, history_from}
use Rattle.linemap_replay.specs.declared.call.Call.{Call}
use Rattle.linemap_replay.specs.declared.call.Call.TheVariants.{Location, Frames, Range, Unit as UnitOf, Preload, Answer, ParseLines, ParseFunctions, ParseInlined}
use Rattle.linemap_replay.specs.OwnedAnswers.{CopiedAnswer, copied_answer}

-- ---- calls

-- the file at a place among answers to loads; none past the last
abbrev pub file_at : List (Option DwarfFile) → ℕ → Option DwarfFile
file_at files place = option_and_then (λ f. f) (slice_get files place)

-- a call, with the answers at its places
abbrev pub context_call : List (Option DwarfFile) → Call → ContextCall
context_call files (Location a) = find_location a
context_call files (Frames a places) = find_frames a (map (file_at files) places.items)
context_call files (Range low high) = find_location_range low high
context_call files (UnitOf a places) = find_unit a (map (file_at files) places.items)
context_call files (Preload a) = preload_units a
context_call files (Answer number place) = answer_token number (file_at files place)
context_call files ParseLines = parse_lines
context_call files ParseFunctions = parse_functions
context_call files ParseInlined = parse_inlined_functions

-- ---- one call on a context

-- a context's first answers, and the units whose tokens the last preload gave
abbrev pub state_of : AnsweredContext → List ℕ → ContextState
state_of c tokens = record { answers = c.answers; tokens = tokens }

-- what a call answers, and what it leaves
abbrev pub call_on : AnsweredContext → List ℕ → ContextCall → CallAnswer × ContextState
call_on c tokens k = call c.plain (naming_in c.plain) k (state_of c tokens)

-- the token of a load that a preload gave
abbrev pub token_of : SplitLoad × ℕ → ℕ
token_of l = l.1

-- where a lookup of an address waits for a load, that is the first of the loads of the address
abbrev pub WaitsForFirst : {A : Type 0} → List PendingLoad → Lookup A → Type 0
WaitsForFirst loads lookup =
    (p : PendingLoad) → lookup ≡ pending p → (rest : List PendingLoad) × (loads ≡ p ∷ rest)

-- A lookup of an address in a context, resumed with an answer to each load in turn, and the first
-- answers after it.
abbrev pub resume_with_all : {A : Type 0} → (AnsweredContext → ℕ → Lookup A) → AnsweredContext → ℕ
    → List (Option DwarfFile) → Lookup A × FirstAnswers
resume_with_all lookup c a files =
    resume c.plain (λ answers. lookup (record c { answers = answers }) a) files c.answers

-- ---- calls one after the other

-- what they leave
abbrev pub state_after : FileContext → Namings → List ContextCall → ContextState → ContextState
state_after c naming [] s = s
state_after c naming (k ∷ ks) s = state_after c naming ks (call c naming k s).1

-- the copies of their answers, on a context that gave no tokens yet
abbrev pub replay_answers : AnsweredContext → List ContextCall → List CopiedAnswer
replay_answers c ks =
    map copied_answer (history_from c.plain (naming_in c.plain) ks (state_of c []))

-- the first answers that they leave there
abbrev pub answers_after : AnsweredContext → List ContextCall → FirstAnswers
answers_after c ks = (state_after c.plain (naming_in c.plain) ks (state_of c [])).answers

-- ---- runs

-- the name of the counter of the runs of a unit's line number program
abbrev pub run_counter : ResolvedUnit → ℕ
run_counter u = (runs_of_unit u).name

-- Each unit has the counter of runs that it had. Its line number program was run once at most.
pub record AreRunOnce (old new : List ResolvedUnit) : Type 0 where
  pub counters : map run_counter new ≡ map run_counter old
  pub once : All (λ u. (runs_of_unit u).count ≤ 1) new
