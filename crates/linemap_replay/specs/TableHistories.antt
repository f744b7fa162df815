-- What calls on a context over a table's sections answer: what the table says.
use Rattle.std.specs.Prelude.{◌≡◌, ◌≤◌, ◌^◌, ⊤, Bool, List, [], map, option_map, Ok}
use Rattle.addr2line_context.specs.AnsweredContexts.{AnsweredContext}
use Rattle.addr2line_context.specs.Contexts.{context}
use Rattle.addr2line_context.specs.Histories.{ContextCall, find_location, find_frames, find_unit, find_location_range, preload_units, answer_token, parse_lines, parse_functions, parse_inlined_functions}
use Rattle.addr2line_context.specs.Repetition.{no_items, prepend}
use Rattle.linemap_emit.specs.CallAgreement.{OneByOne}
use Rattle.linemap_emit.specs.EmittedSections.{SectionBytes, HoldBytes}
use Rattle.linemap_emit.specs.LookupAgreement.{lookup_location}
use Rattle.linemap_emit.specs.LookupStretches.{lookup_stretch}
use Rattle.linemap_emit.specs.Meaning as table
use Rattle.linemap_emit.specs.SectionAnswers.{AreAnswers}
use Rattle.linemap_emit.specs.TableParts.{UnitPart}
use Rattle.linemap_replay.specs.OwnedAnswers.{CopiedFrame, CopiedAnswer, location_copy, frames_copy, stretches_copy, dwo_ids, missing_token}
use Rattle.linemap_replay.specs.Replays.{replay_answers}

-- the name and the place of a frame are a table's
pub record IsFrameOf (f : table.Frame) (g : CopiedFrame) : Type 0 where
  pub name_is : option_map (λ n. n.name) g.function ≡ f.function
  pub location_is : g.location ≡ option_map lookup_location f.location

-- The answer to a call is what the table says. No unit of it waits for a load. Of units, and of
-- what is read ahead, a table says nothing.
abbrev pub IsTableAnswer : List UnitPart → ContextCall → CopiedAnswer → Type 0
IsTableAnswer us (find_location a) answer =
    answer ≡ location_copy (option_map lookup_location (table.location_at us a))
IsTableAnswer us (find_frames a files) answer =
    (fs : List CopiedFrame) × (answer ≡ frames_copy fs)
    × OneByOne IsFrameOf (table.frames_at us a) fs
IsTableAnswer us (find_location_range low high) answer =
    answer ≡ stretches_copy
    (prepend (map lookup_stretch (table.stretches_between us low high)) (no_items (Ok tt)))
IsTableAnswer us (preload_units a) answer = answer ≡ dwo_ids []
IsTableAnswer us (answer_token place file) answer = answer ≡ missing_token
IsTableAnswer us (find_unit a files) answer = ⊤
IsTableAnswer us parse_lines answer = ⊤
IsTableAnswer us parse_functions answer = ⊤
IsTableAnswer us parse_inlined_functions answer = ⊤

-- Over sections that hold what is emitted of a table, calls one after the other are answered as the
-- table says, under any first answers that the context begins with.
abbrev pub CallsAnswered : Type 0
CallsAnswered =
    (is_big : Bool) (bytes : SectionBytes) (us : List UnitPart) (c : AnsweredContext)
    (calls : List ContextCall)
    → AreAnswers is_big bytes us → 2 ^ 31 ≤ c.plain.file.offset_limit
    → HoldBytes is_big bytes c.plain.file → context c.plain.file ≡ Ok c.plain.context
    → OneByOne (IsTableAnswer us) calls (replay_answers c calls)
