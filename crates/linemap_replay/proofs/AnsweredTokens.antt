-- Loads that are asked for ahead, and answers to them by their tokens.
use Rattle.std.proofs.Common.{◌≡◌, ◌≢◌, ℕ, List, [], map, slice_get, Option, Some, None, Result, Ok, Err, OnOk, sym, ap, ◌∙◌, subst}
use Rattle.std.proofs.lemmas.Simd.{map-map}
use Rattle.addr2line_context.specs.AnsweredContexts.{AnsweredContext}
use Rattle.addr2line_context.specs.DwarfFiles.{DwarfFile}
use Rattle.addr2line_context.specs.Error.{Error}
use Rattle.addr2line_context.specs.Error.TheVariants.{Memory}
use Rattle.addr2line_context.specs.FirstAnswers.{SplitLoad, FirstAnswers, PendingLoad}
use Rattle.addr2line_context.specs.Histories.{preload_units, answer_token, token_call}
use Rattle.addr2line_context.specs.LoadAnswers.{AnswersOrNoMemory}
use Rattle.addr2line_context.specs.Lookups.{answer_load}
use Rattle.addr2line_context.specs.Preloads.{load_of_item}
use Rattle.addr2line_context.specs.SettledLookups.{loads_in}
use Rattle.addr2line_context.specs.OwnedPlaces.{CopiesOrNoMemory}
use Rattle.linemap_replay.specs.declared.answer.Answer.{Answer}
use Rattle.linemap_replay.specs.Outcomes.{Refuses, Completes}
use Rattle.linemap_replay.specs.OwnedAnswers.{CopiedAnswer, dwo_ids, missing_token, answer_of, copied_answer}
use Rattle.linemap_replay.specs.Replays.{state_of, call_on, token_of}
use Rattle.linemap_replay.proofs.CopiedAnswers.{completion_copy, if_completed, meaning_is_answer}

-- ---- loads

abbrev ok_of : {A : Type 0} → A → Result A Error
ok_of x = Ok x

-- what is never refused but for memory
pub never_refused : {A : Type 0} (x : A) (e : Error) (r : Result Answer Error) (copy : CopiedAnswer)
    → (e ≢ Memory → ok_of x ≡ Err e) → Refuses e r → CopiesOrNoMemory answer_of r copy
never_refused x e (Ok answer) copy is h = absurd (let no = is h.0 in cc)
never_refused x e (Err d) copy is h = h.1

pub never_ok : {A : Type 0} (x : A) (e : Error) (r : Result Answer Error) (P : Type 0)
    → (e ≢ Memory → ok_of x ≡ Err e) → Refuses e r → OnOk r P
never_ok x e (Ok answer) P is h = absurd (let no = is h.0 in cc)
never_ok x e (Err d) P is h = tt

module _ (v : AnsweredContext) (a : ℕ) (items : List (SplitLoad × ℕ))
    (are : ok_of (loads_in v a) ≡ Ok (map load_of_item items)) where
  loads_are : loads_in v a ≡ map load_of_item items
  loads_are = cc

  pub preload_copy : dwo_ids (map (λ (i : SplitLoad × ℕ). i.0.dwo_id) items)
      ≡ copied_answer (call_on v [] (preload_units a)).0
  preload_copy =
      ap dwo_ids (sym (map-map (λ (l : SplitLoad). l.dwo_id) (λ (i : SplitLoad × ℕ). i.0) items)
      ∙ ap (map (λ (l : SplitLoad). l.dwo_id))
      (sym (map-map (λ (p : PendingLoad). p.load) load_of_item items)
      ∙ ap (map (λ (p : PendingLoad). p.load)) (sym loads_are)))

  pub preload_tokens : map token_of items ≡ (call_on v [] (preload_units a)).1.tokens
  preload_tokens =
      sym (map-map (λ (p : PendingLoad). p.number) load_of_item items)
      ∙ ap (map (λ (p : PendingLoad). p.number)) (sym loads_are)

-- ---- tokens

module _ (v : AnsweredContext) (loads : List (SplitLoad × ℕ)) (number : ℕ) (file : Option DwarfFile) where
  abbrev tokens : List ℕ
  tokens = map token_of loads

  -- there is a token of that number
  module _ (token : ℕ) (at : slice_get tokens number ≡ Some token) (done : Result (Unit {0}) Error)
      (new : FirstAnswers) (answers : AnswersOrNoMemory done v.answers new (answer_load v.plain v.answers token file))
      (r : Result Answer Error) (completes : Completes done r) where
    abbrev meaning : Result (Unit {0}) Error × FirstAnswers
    meaning = answer_load v.plain v.answers token file

    pub token_copy : CopiesOrNoMemory answer_of r (copied_answer (call_on v tokens (answer_token number file)).0)
    token_copy =
        subst (λ (o : Option ℕ). CopiesOrNoMemory answer_of r
        (copied_answer (token_call v.plain o file (state_of v tokens)).0))
        (sym at)
        (completion_copy done meaning.0 r
        (λ other. ap (λ (x : Result (Unit {0}) Error × FirstAnswers). x.0)
        (meaning_is_answer done v.answers new meaning answers other)) completes)

    pub token_left : OnOk r (new ≡ (call_on v tokens (answer_token number file)).1.answers)
    token_left =
        subst (λ (o : Option ℕ). OnOk r (new ≡ (token_call v.plain o file (state_of v tokens)).1.answers))
        (sym at)
        (if_completed done r (new ≡ meaning.1)
        (λ other. sym (ap (λ (x : Result (Unit {0}) Error × FirstAnswers). x.1)
        (meaning_is_answer done v.answers new meaning answers other))) completes)

  -- there is none
  module _ (at : slice_get tokens number ≡ None) where
    pub no_token_copy : missing_token ≡ copied_answer (call_on v tokens (answer_token number file)).0
    no_token_copy = sym (ap (λ (o : Option ℕ). copied_answer (token_call v.plain o file (state_of v tokens)).0) at)

    pub no_token_left : v.answers ≡ (call_on v tokens (answer_token number file)).1.answers
    no_token_left = sym (ap (λ (o : Option ℕ). (token_call v.plain o file (state_of v tokens)).1.answers) at)
