-- Calls on a context, one after the other.
use Rattle.std.proofs.Common.{arith, All, Bool, true, false, ◌≡◌, ℕ, ◌+◌, ◌<◌, ◌≤◌, List, [], ◌∷◌, ◌++◌, map, length, drop, get_or, Option, is_some, if◌then◌else◌, refl, sym, ap, ◌∙◌, append_assoc, append-nil, take, subst}
use Rattle.std.proofs.lemmas.List.{drop_all, map-append, map_more, take-append-drop}
use Rattle.std.proofs.lemmas.List.Elements.{All-nil, All-cons}
use Rattle.std.proofs.lemmas.Simd.{map-map}
use Rattle.addr2line_context.specs.AnsweredContexts.{AnsweredContext}
use Rattle.addr2line_context.specs.ContextNames.{naming_in}
use Rattle.addr2line_context.specs.Contexts.{FileContext}
use Rattle.addr2line_context.specs.DwarfFiles.{DwarfFile}
use Rattle.addr2line_context.specs.FirstAnswers.{FirstAnswers}
use Rattle.addr2line_context.specs.LookupCosts.{counters_of}
use Rattle.addr2line_context.specs.ResolvedUnits.{ResolvedUnit, runs_of_unit}
use Rattle.addr2line_context.specs.Histories.{ContextCall, CallAnswer, ContextState, call, history_from}
use Rattle.linemap_replay.specs.declared.answer.Answer.{Answer}
use Rattle.linemap_replay.specs.declared.call.Call.{Call}
use Rattle.linemap_replay.specs.OwnedAnswers.{CopiedAnswer, answer_of, copied_answer}
use Rattle.linemap_replay.specs.CallEffects.{KeepsAfterCall, KeepsAfterCalls, LeavesPart, LeavesSome, MayReadFunctions, MayReadLines, SomeMayRead}
use Rattle.linemap_replay.specs.Replays.{AreRunOnce, context_call, call_on, state_of, state_after, replay_answers, answers_after}
use Rattle.linemap_replay.proofs.AnsweredPlaces.{items_at}
use Rattle.linemap_replay.proofs.KeptReads.{keeps_then, keeps_wider}
use Rattle.linemap_replay.proofs.PartAnswers.{state_after-append}

-- what the calls that are left answer and leave
abbrev answers_left : FileContext → List ContextCall → ContextState → List CopiedAnswer
answers_left c ks s = map copied_answer (history_from c (naming_in c) ks s)

abbrev state_left : FileContext → List ContextCall → ContextState → ContextState
state_left c ks s = state_after c (naming_in c) ks s

abbrev with_answers : FileContext → FirstAnswers → AnsweredContext
with_answers c answers = record { plain = c; answers = answers }

module _ (files : List (Option DwarfFile)) (start : AnsweredContext) (calls : List Call) where
  abbrev calls_from : ℕ → List ContextCall
  calls_from i = map (context_call files) (drop i calls)

  -- The answers to the calls before a number, and those of the others, are all; and the others leave what all do.
  pub record AnsweredBefore (v : AnsweredContext) (tokens : List ℕ) (found : List Answer) (i : ℕ) : Type 0 where
    pub plain : v.plain ≡ start.plain
    pub answers :
        map answer_of found ++ answers_left start.plain (calls_from i) (state_of v tokens)
        ≡ replay_answers start (map (context_call files) calls)
    pub state :
        state_left start.plain (calls_from i) (state_of v tokens)
        ≡ state_left start.plain (map (context_call files) calls) (state_of start [])
    pub reached :
        state_of v tokens ≡ state_left start.plain (map (context_call files) (take i calls)) (state_of start [])

  pub none_before : (found : List Answer) (tokens : List ℕ) → found ≡ [] → tokens ≡ []
      → AnsweredBefore start tokens found 0
  none_before found tokens nothing none = record {
    plain = refl;
    answers =
        ap (λ (xs : List Answer). map answer_of xs
        ++ answers_left start.plain (map (context_call files) calls) (state_of start tokens)) nothing
        ∙ ap (λ (ns : List ℕ). answers_left start.plain (map (context_call files) calls) (state_of start ns)) none;
    state = ap (λ (ns : List ℕ). state_left start.plain (map (context_call files) calls) (state_of start ns)) none;
    reached = ap (λ (ns : List ℕ). state_of start ns) none;
  }

  module _ (v new : AnsweredContext) (tokens later : List ℕ) (found : List Answer) (i : ℕ) (k : Call) (answer : Answer)
      (lt : i < length calls) (at : k ≡ get_or calls i k) (before : AnsweredBefore v tokens found i)
      (copy : answer_of answer ≡ copied_answer (call_on v tokens (context_call files k)).0)
      (left : state_of new later ≡ (call_on v tokens (context_call files k)).1)
      (plain : new.plain ≡ v.plain) where
    abbrev here : CallAnswer × ContextState
    here = call start.plain (naming_in start.plain) (context_call files k) (state_of v tokens)

    same_call : call_on v tokens (context_call files k) ≡ here
    same_call = ap (λ c. call c (naming_in c) (context_call files k) (state_of v tokens)) before.plain

    first_call : calls_from i ≡ context_call files k ∷ calls_from (i + 1)
    first_call = ap (map (context_call files)) (items_at calls i k lt at)

    next_state : here.1
        ≡ state_left start.plain (map (context_call files) (take (i + 1) calls)) (state_of start [])
    next_state =
        ap (λ (s : ContextState). (call start.plain (naming_in start.plain) (context_call files k) s).1) before.reached
        ∙ sym (state_after-append start.plain (naming_in start.plain) (map (context_call files) (take i calls))
        (context_call files k) (state_of start []))
        ∙ ap (λ ks. state_left start.plain ks (state_of start []))
        (ap (λ (x : Call). map (context_call files) (take i calls) ++ context_call files x ∷ []) at
        ∙ sym (map_more (context_call files) calls i k lt))

    abbrev rest : ContextState → List CopiedAnswer
    rest s = answers_left start.plain (calls_from (i + 1)) s

    pub one_more_call : (pushed : List Answer) → pushed ≡ found ++ answer ∷ []
        → AnsweredBefore new later pushed (i + 1)
    one_more_call pushed is = record {
      plain = plain ∙ before.plain;
      answers =
          ap (λ (xs : List Answer). map answer_of xs ++ rest (state_of new later)) is
          ∙ ap (λ xs. xs ++ rest (state_of new later)) (map-append answer_of found (answer ∷ []))
          ∙ append_assoc (map answer_of found) (answer_of answer ∷ []) (rest (state_of new later))
          ∙ ap (λ x. map answer_of found ++ x ∷ rest (state_of new later))
          (copy ∙ ap (λ (r : CallAnswer × ContextState). copied_answer r.0) same_call)
          ∙ ap (λ s. map answer_of found ++ copied_answer here.0 ∷ rest s)
          (left ∙ ap (λ (r : CallAnswer × ContextState). r.1) same_call)
          ∙ ap (λ ks. map answer_of found ++ answers_left start.plain ks (state_of v tokens)) (sym first_call)
          ∙ before.answers;
      state =
          ap (λ s. state_left start.plain (calls_from (i + 1)) s)
          (left ∙ ap (λ (r : CallAnswer × ContextState). r.1) same_call)
          ∙ ap (λ ks. state_left start.plain ks (state_of v tokens)) (sym first_call)
          ∙ before.state;
      reached = left ∙ ap (λ (r : CallAnswer × ContextState). r.1) same_call ∙ next_state;
    }

  module _ (v : AnsweredContext) (tokens : List ℕ) (found : List Answer) (i : ℕ) (ended : length calls ≤ i)
      (before : AnsweredBefore v tokens found i) where
    none_left : calls_from i ≡ []
    none_left = ap (map (context_call files)) (drop_all i calls ended)

    pub all_answers : map answer_of found ≡ replay_answers start (map (context_call files) calls)
    all_answers =
        sym (append-nil (map answer_of found))
        ∙ ap (λ ks. map answer_of found ++ answers_left start.plain ks (state_of v tokens)) (sym none_left)
        ∙ before.answers

    pub last_state : v.answers
        ≡ (state_left start.plain (map (context_call files) calls) (state_of start [])).answers
    last_state =
        ap (λ (s : ContextState). s.answers)
        (ap (λ ks. state_left start.plain ks (state_of v tokens)) (sym none_left) ∙ before.state)

  -- a part of the calls, and the next one
  module _ (v : AnsweredContext) (tokens : List ℕ) (found : List Answer) (i : ℕ) (k : Call) (lt : i < length calls)
      (at : k ≡ get_or calls i k) (before : AnsweredBefore v tokens found i) where
    abbrev done : List ContextCall
    done = map (context_call files) (take i calls)

    are_calls : map (context_call files) calls ≡ done ++ context_call files k ∷ calls_from (i + 1)
    are_calls =
        ap (map (context_call files)) (sym (take-append-drop i calls))
        ∙ map-append (context_call files) (take i calls) (drop i calls)
        ∙ ap (λ ks. done ++ map (context_call files) ks) (items_at calls i k lt at)

    -- memory is refused during it, or after it
    pub leaves_some : (new : FirstAnswers)
        → LeavesPart v.plain (naming_in v.plain) (context_call files k) (state_of v tokens) new
        → LeavesSome start (map (context_call files) calls) new
    leaves_some new part = record {
      done = done;
      next = context_call files k;
      rest = calls_from (i + 1);
      are_calls = are_calls;
      part =
          subst (λ s. LeavesPart start.plain (naming_in start.plain) (context_call files k) s new) before.reached
          (subst (λ c. LeavesPart c (naming_in c) (context_call files k) (state_of v tokens) new) before.plain part);
    }

    -- the context is that with the answers that were left before it
    same_context : v ≡ with_answers start.plain (answers_after start done)
    same_context =
        ap (λ (c : FileContext). with_answers c v.answers) before.plain
        ∙ ap (with_answers start.plain) (ap (λ (s : ContextState). s.answers) before.reached)

    some_may_read : (may_read : AnsweredContext → ContextCall → ℕ → Type 0) (n : ℕ)
        → may_read v (context_call files k) n → SomeMayRead may_read start (map (context_call files) calls) n
    some_may_read may_read n h = record {
      done = done;
      next = context_call files k;
      rest = calls_from (i + 1);
      are_calls = are_calls;
      reads = subst (λ (c : AnsweredContext). may_read c (context_call files k) n) same_context h;
    }

    -- what is kept after it
    pub keeps_call : (us vs ws : List ResolvedUnit) → KeepsAfterCalls start (map (context_call files) calls) us vs
        → KeepsAfterCall v (context_call files k) vs ws → KeepsAfterCalls start (map (context_call files) calls) us ws
    keeps_call us vs ws kept after =
        let asks_lines = SomeMayRead MayReadLines start (map (context_call files) calls) in
        let asks_functions = SomeMayRead MayReadFunctions start (map (context_call files) calls) in
        keeps_then asks_lines asks_functions us vs ws kept
        (keeps_wider (MayReadLines v (context_call files k)) asks_lines (MayReadFunctions v (context_call files k))
        asks_functions (some_may_read MayReadLines) (some_may_read MayReadFunctions) vs ws after)

-- a program is run where there is one and its lines are kept, and then once
run_once : (us : List ResolvedUnit) → All (λ (u : ResolvedUnit). (runs_of_unit u).count ≤ 1) us
run_once [] = All-nil (λ (u : ResolvedUnit). (runs_of_unit u).count ≤ 1)
run_once (u ∷ us) =
    All-cons (λ (v : ResolvedUnit). (runs_of_unit v).count ≤ 1) u us
    (by u.keeps_lines (is_some u.value.unit.facts.line_header)) (run_once us)
  where
    by : (is_kept has_program : Bool) → (if is_kept then (if has_program then 1 else 0) else 0) ≤ 1
    by true true = omega arith
    by true false = omega arith
    by false has_program = omega arith

-- so each unit was run once at most, by the counter that it had
pub runs_once : (old new : List ResolvedUnit) → map counters_of new ≡ map counters_of old → AreRunOnce old new
runs_once old new same = record {
  counters =
      sym (map-map (λ (p : ℕ × ℕ). p.1) counters_of new) ∙ ap (map (λ (p : ℕ × ℕ). p.1)) same
      ∙ map-map (λ (p : ℕ × ℕ). p.1) counters_of old;
  once = run_once new;
}
