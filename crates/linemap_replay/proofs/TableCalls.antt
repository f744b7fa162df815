-- Calls on a context over a table's sections, one after the other.
use Rattle.std.proofs.Common.{◌≡◌, ℕ, List, [], ◌∷◌, map, Option, Some, None, option_map, slice_get, Result, Ok, refl, sym, ap, subst, ◌∙◌}
use Rattle.addr2line_context.specs.AnsweredContexts.{AnsweredContext}
use Rattle.addr2line_context.specs.ContextNames.{naming_in}
use Rattle.addr2line_context.specs.Contexts.{Context, FileContext, context}
use Rattle.addr2line_context.specs.DwarfFiles.{DwarfFile}
use Rattle.addr2line_context.specs.FirstAnswers.{PendingLoad, FirstAnswers, Lookup, output}
use Rattle.addr2line_context.specs.Frames.{FunctionName, Frame}
use Rattle.addr2line_context.specs.Histories.{ContextCall, find_location, find_frames, find_unit, find_location_range, preload_units, answer_token, parse_lines, parse_functions, parse_inlined_functions, CallAnswer, loads_answer, stretches_answer, location_answer, frames_answer, answer_or_suspension, ContextState, call, history_from, token_call}
use Rattle.addr2line_context.specs.Lookups.{answer_load, frames, if_output, resume}
use Rattle.linemap_emit.specs.CallAgreement.{OneByOne}
use Rattle.linemap_emit.specs.LookupFrameLaws.{FrameAgrees}
use Rattle.linemap_emit.specs.Meaning as table
use Rattle.linemap_emit.specs.RecordedTableLaws.{AnswersTable}
use Rattle.linemap_emit.specs.TableParts.{UnitPart}
use Rattle.linemap_replay.specs.OwnedAnswers.{CopiedName, copied_name, copied_frame, copied_answer}
use Rattle.linemap_replay.specs.Replays.{state_of, replay_answers}
use Rattle.linemap_replay.specs.TableHistories.{IsFrameOf, IsTableAnswer}
use Rattle.linemap_replay.proofs.NoLoads.{no_loads}

-- the bytes of a name
bytes_of_copy : (n : Option FunctionName) → option_map (λ (x : CopiedName). x.name) (option_map copied_name n)
    ≡ option_map (λ (x : FunctionName). x.name.bytes) n
bytes_of_copy None = refl
bytes_of_copy (Some n) = refl

-- copies of frames that agree with a table's
frames_agree : (fs : List table.Frame) (gs : List Frame) → OneByOne FrameAgrees fs gs
    → OneByOne IsFrameOf fs (map copied_frame gs)
frames_agree [] [] h = tt
frames_agree [] (g ∷ gs) h = absurd h
frames_agree (f ∷ fs) [] h = absurd h
frames_agree (f ∷ fs) (g ∷ gs) h = (
  record { name_is = bytes_of_copy g.function ∙ h.0.name_is; location_is = h.0.location_is },
  frames_agree fs gs h.1,
)

-- a lookup that waits for no load is not changed by answers
resume_output : {A : Type 0} (c : FileContext) (lookup : FirstAnswers → Lookup A) (x : A)
    (files : List (Option DwarfFile))
    (answers : FirstAnswers) → lookup answers ≡ output x → resume c lookup files answers ≡ (output x, answers)
resume_output c lookup x [] answers is = ap (λ l. (l, answers)) is
resume_output c lookup x (file ∷ files) answers is =
    ap (λ l. if_output l (λ y. (output y, answers))
    (λ p. resume c lookup files (answer_load c answers p.number file).1)) is

module _ (s : DwarfFile) (us : List UnitPart) (x : AnswersTable s us) where
  abbrev file : FileContext
  file = record { file = s; context = x.found }

  -- the answer to a call, and what it leaves
  abbrev after_call : ContextCall → ContextState → CallAnswer × ContextState
  after_call k state = call file (naming_in file) k state

  -- after any calls there are no tokens
  pub record IsAnswered (k : ContextCall) (state : ContextState) : Type 0 where
    pub answer : IsTableAnswer us k (copied_answer (after_call k state).0)
    pub no_tokens : (after_call k state).1.tokens ≡ []

  frames_answered : (a : ℕ) (files : List (Option DwarfFile)) (state : ContextState)
      → (after_call (find_frames a files) state).0 ≡ frames_answer (Ok (x.frames_are state.answers a).list)
  frames_answered a files state =
      ap (λ r. answer_or_suspension frames_answer r.0)
      (resume_output file (λ answers. frames file (naming_in file) answers a) (Ok (x.frames_are state.answers a).list)
      files state.answers (x.frames_are state.answers a).are_frames)

  one_call : (k : ContextCall) (state : ContextState) → state.tokens ≡ [] → IsAnswered k state
  one_call (find_location a) state none = record {
    answer = ap (λ r. copied_answer (location_answer r)) (x.places a);
    no_tokens = none;
  }
  one_call (find_frames a files) state none =
      let found = x.frames_are state.answers a in
      record {
        answer = (
          map copied_frame found.list,
          ap copied_answer (frames_answered a files state),
          frames_agree (table.frames_at us a) found.list found.agree,
        );
        no_tokens = none;
      }
  one_call (find_unit a files) state none = record { answer = tt; no_tokens = none }
  one_call (find_location_range low high) state none = record {
    answer = ap (λ l. copied_answer (stretches_answer l)) (x.stretches_are low high);
    no_tokens = none;
  }
  one_call (preload_units a) state none =
      let is = no_loads file state.answers a x.has_no_split_part in
      record {
        answer = ap (λ (ps : List PendingLoad). copied_answer (loads_answer (map (λ p. p.load) ps))) is;
        no_tokens = ap (λ (ps : List PendingLoad). map (λ p. p.number) ps) is;
      }
  one_call (answer_token place file_there) state none =
      let is : after_call (answer_token place file_there) state ≡ token_call file None file_there state =
      ap (λ (ts : List ℕ). token_call file (slice_get ts place) file_there state) none in
      record {
        answer = ap (λ (r : CallAnswer × ContextState). copied_answer r.0) is;
        no_tokens = ap (λ (r : CallAnswer × ContextState). r.1.tokens) is ∙ none;
      }
  one_call parse_lines state none = record { answer = tt; no_tokens = none }
  one_call parse_functions state none = record { answer = tt; no_tokens = none }
  one_call parse_inlined_functions state none = record { answer = tt; no_tokens = none }

  all_calls : (ks : List ContextCall) (state : ContextState) → state.tokens ≡ []
      → OneByOne (IsTableAnswer us) ks (map copied_answer (history_from file (naming_in file) ks state))
  all_calls [] state none = tt
  all_calls (k ∷ ks) state none =
      let here = one_call k state none in (here.answer, all_calls ks (after_call k state).1 here.no_tokens)

same_found : {A E : Type 0} (r : Result A E) (x y : A) → r ≡ Ok x → r ≡ Ok y → y ≡ x
same_found r x y is other = cc

-- whatever first answers the context begins with
pub calls_answered_by : (us : List UnitPart) (c : AnsweredContext) (ks : List ContextCall)
    → AnswersTable c.plain.file us → context c.plain.file ≡ Ok c.plain.context
    → OneByOne (IsTableAnswer us) ks (replay_answers c ks)
calls_answered_by us c ks x is =
    let same : c.plain ≡ record { file = c.plain.file; context = x.found } =
    ap (λ (f : Context). record { file = c.plain.file; context = f })
    (same_found (context c.plain.file) x.found c.plain.context x.is_context is) in
    subst (λ (p : FileContext). OneByOne (IsTableAnswer us) ks
    (map copied_answer (history_from p (naming_in p) ks (state_of c [])))) (sym same)
    (all_calls c.plain.file us x ks (state_of c []) refl)
