-- What calls leave where memory is refused.
use Rattle.std.proofs.Common.{◌≡◌, ℕ, ◌+◌, ◌<◌, inl, inr, List, [], ◌∷◌, ◌++◌, map, take, length, get_or, Option, Some, Result, Ok, Err, OnErr, refl, sym, ap, ◌∙◌, ◌⊎◌, slice_get, arith}
use Rattle.std.proofs.lemmas.List.{take_all, take-map, map_more}
use Rattle.addr2line_context.specs.AnsweredContexts.{AnsweredContext}
use Rattle.addr2line_context.specs.ContextParses.{ParsesOrNoMemory}
use Rattle.addr2line_context.specs.Contexts.{ContextUnit, FileContext}
use Rattle.addr2line_context.specs.DwarfFiles.{DwarfFile}
use Rattle.addr2line_context.specs.Error.{Error}
use Rattle.addr2line_context.specs.FirstAnswers.{FirstAnswer, FirstAnswers, Lookup, SplitLoad, output, pending}
use Rattle.addr2line_context.specs.Histories.{ContextCall, ContextState, find_location, find_frames, find_unit, find_location_range, preload_units, answer_token, parse_lines, parse_functions, parse_inlined_functions, call, functions_or_refusal, calls_or_refusal, parse_from, token_call}
use Rattle.addr2line_context.specs.LoadAnswers.{AnswersOrNoMemory}
use Rattle.addr2line_context.specs.Lookups.{Namings, answer_load, if_output, resume, frames, unit}
use Rattle.addr2line_context.specs.SettledLookups.{loads_in, after_answer}
use Rattle.addr2line_context.specs.UnitLookups.{IsPending}
use Rattle.linemap_replay.specs.CallEffects.{LeavesPart, SomeUnitsParsed}
use Rattle.linemap_replay.specs.Replays.{WaitsForFirst, call_on, resume_with_all, state_of, state_after, token_of}
use Rattle.linemap_replay.proofs.AnsweredPlaces.{resumed_waiting}

-- what holds whatever a result is
pub if_err : {A E : Type 0} (r : Result A E) (P : Type 0) → P → OnErr r P
if_err (Ok x) P h = tt
if_err (Err e) P h = h

-- ---- resumed lookups

module _ {A : Type 0} (c : FileContext) (lookup : FirstAnswers → Lookup A) where
  abbrev outcome : Type 0
  outcome = Lookup A × FirstAnswers

  -- a lookup that found something takes no answer
  done_stays : (x : A) (s : FirstAnswers) → lookup s ≡ output x → (ys : List (Option DwarfFile))
      → resume c lookup ys s ≡ (output x, s)
  done_stays x s is [] = ap (λ (l : Lookup A). (l, s)) is
  done_stays x s is (g ∷ gs) =
      ap (λ (l : Lookup A). if_output l (λ y. (output y, s))
      (λ p. resume c lookup gs (answer_load c s p.number g).1)) is

  step : (f : Option DwarfFile) (fs ys : List (Option DwarfFile)) (s : FirstAnswers)
      → ((t : FirstAnswers) → resume c lookup (fs ++ ys) t ≡ resume c lookup ys (resume c lookup fs t).1)
      → (l : Lookup A) → lookup s ≡ l
      → if_output l (λ x. (output x, s)) (λ p. resume c lookup (fs ++ ys) (answer_load c s p.number f).1)
      ≡ resume c lookup ys
      (if_output l (λ x. (output x, s)) (λ p. resume c lookup fs (answer_load c s p.number f).1)).1
  step f fs ys s later (output x) is = sym (done_stays x s is ys)
  step f fs ys s later (pending p) is = later (answer_load c s p.number f).1

  -- answered by some files, and then by others
  pub resume-append : (xs ys : List (Option DwarfFile)) (s : FirstAnswers)
      → resume c lookup (xs ++ ys) s ≡ resume c lookup ys (resume c lookup xs s).1
  resume-append [] ys s = refl
  resume-append (f ∷ fs) ys s = step f fs ys s (resume-append fs ys) (lookup s) refl

module _ {A : Type 0} (lookup : AnsweredContext → ℕ → Lookup A) (a : ℕ) (start : AnsweredContext) where
  -- one more load is answered
  pub answered_more : (v mid new : AnsweredContext) (done : List (Option DwarfFile)) (file : Option DwarfFile)
      → v.plain ≡ start.plain → v.answers ≡ (resume_with_all lookup start a done).1
      → WaitsForFirst (loads_in v a) (lookup v a) → IsPending (lookup v a) → mid ≡ v → new.plain ≡ mid.plain
      → new.answers ≡ (after_answer mid a file).answers
      → new.answers ≡ (resume_with_all lookup start a (done ++ file ∷ [])).1
  answered_more v mid new done file plain so_far first waits is same answered =
      ap (λ (r : Lookup A × FirstAnswers). r.1)
      (resumed_waiting lookup a v mid new first waits is same file answered [])
      ∙ ap (λ c. (resume c (λ answers. lookup (record { plain = c; answers = answers }) a)
      (file ∷ []) v.answers).1) plain
      ∙ ap (λ s. (resume start.plain (λ answers. lookup (record start { answers = answers }) a) (file ∷ []) s).1) so_far
      ∙ sym (ap (λ (r : Lookup A × FirstAnswers). r.1)
      (resume-append start.plain (λ answers. lookup (record start { answers = answers }) a) done (file ∷ [])
      start.answers))

  module _ (file : ℕ → Option DwarfFile) (places : List ℕ) (i : ℕ) where
    abbrev IsPart : FirstAnswers → Type 0
    IsPart s = (n : ℕ) × (s ≡ (resume_with_all lookup start a (take n (map file places))).1)

    -- as many loads are answered as there were places so far
    pub part_reached : (s : FirstAnswers) → s ≡ (resume_with_all lookup start a (map file (take i places))).1 → IsPart s
    part_reached s is = (i, is ∙ ap (λ fs. (resume_with_all lookup start a fs).1) (sym (take-map file i places)))

    -- and one more, or not
    pub part_answered : i < length places → (v mid new : AnsweredContext) → v.plain ≡ start.plain
        → v.answers ≡ (resume_with_all lookup start a (map file (take i places))).1
        → WaitsForFirst (loads_in v a) (lookup v a) → IsPending (lookup v a) → mid ≡ v → new.plain ≡ mid.plain
        → (new.answers ≡ (after_answer mid a (file (get_or places i 0))).answers) ⊎ (new.answers ≡ mid.answers)
        → IsPart new.answers
    part_answered lt v mid new plain so_far first waits is same (inl answered) = (
      i + 1,
      answered_more v mid new (map file (take i places)) (file (get_or places i 0)) plain so_far first waits is same
          answered
          ∙ ap (λ fs. (resume_with_all lookup start a fs).1)
          (sym (map_more file places i 0 lt) ∙ sym (take-map file (i + 1) places)),
    )
    part_answered lt v mid new plain so_far first waits is same (inr none) =
        part_reached new.answers (none ∙ ap (λ (x : AnsweredContext). x.answers) is ∙ so_far)

  -- all that there are
  pub answered_all : (files : List (Option DwarfFile)) (s : FirstAnswers) → s ≡ (resume_with_all lookup start a files).1
      → s ≡ (resume_with_all lookup start a (take (length files) files)).1
  answered_all files s is =
      is ∙ ap (λ fs. (resume_with_all lookup start a fs).1) (sym (take_all (length files) files (omega arith)))

-- ---- units that are parsed

module _ (c : FileContext) (parse : ContextUnit → FirstAnswer → Result (Unit {0}) Error) where
  pub parsed_all : (old : FirstAnswers)
      → (parse_from c parse 0 c.context.units old).1
      ≡ (parse_from c parse 0 (take (length c.context.units) c.context.units) old).1
  parsed_all old =
      ap (λ us. (parse_from c parse 0 us old).1) (sym (take_all (length c.context.units) c.context.units (omega arith)))

  pub parsed_part : (done : Result (Unit {0}) Error) (old new : FirstAnswers)
      → ParsesOrNoMemory c parse done old new → SomeUnitsParsed c parse old new
  parsed_part done old new (inl is) = (
    length c.context.units,
    sym (ap (λ (r : Result (Unit {0}) Error × FirstAnswers). r.1) is) ∙ parsed_all old,
  )
  parsed_part done old new (inr part) = part.1

-- ---- tokens

module _ (v : AnsweredContext) (loads : List (SplitLoad × ℕ)) (number : ℕ) (file : Option DwarfFile) (token : ℕ)
    (at : slice_get (map token_of loads) number ≡ Some token) where
  pub token_part : (done : Result (Unit {0}) Error) (new : FirstAnswers)
      → AnswersOrNoMemory done v.answers new (answer_load v.plain v.answers token file)
      → (new ≡ v.answers) ⊎ (new ≡ (call_on v (map token_of loads) (answer_token number file)).1.answers)
  token_part done new (inl is) =
      inr (sym (ap (λ (r : Result (Unit {0}) Error × FirstAnswers). r.1) is)
      ∙ sym (ap (λ (o : Option ℕ). (token_call v.plain o file (state_of v (map token_of loads))).1.answers) at))
  token_part done new (inr none) = inl none.1

-- ---- a whole call is a part of it

module _ (c : FileContext) (naming : Namings) (s : ContextState) where
  resumed_whole : {A : Type 0} (lookup : FirstAnswers → Lookup A) (files : List (Option DwarfFile))
      → (resume c lookup files s.answers).1 ≡ (resume c lookup (take (length files) files) s.answers).1
  resumed_whole lookup files =
      ap (λ fs. (resume c lookup fs s.answers).1) (sym (take_all (length files) files (omega arith)))

  pub whole_is_part : (k : ContextCall) → LeavesPart c naming k s (call c naming k s).1.answers
  whole_is_part (find_location a) = inr refl
  whole_is_part (find_frames a files) = (length files, resumed_whole (λ answers. frames c naming answers a) files)
  whole_is_part (find_unit a files) = (length files, resumed_whole (λ answers. unit c naming answers a) files)
  whole_is_part (find_location_range low high) = inr refl
  whole_is_part (preload_units a) = inr refl
  whole_is_part (answer_token place file) = inr refl
  whole_is_part parse_lines = inr refl
  whole_is_part parse_functions = (length c.context.units, parsed_all c (functions_or_refusal c) s.answers)
  whole_is_part parse_inlined_functions = (length c.context.units, parsed_all c (calls_or_refusal c naming) s.answers)

-- ---- one call after the other

pub state_after-append : (c : FileContext) (naming : Namings) (ks : List ContextCall) (k : ContextCall)
    (s : ContextState)
    → state_after c naming (ks ++ k ∷ []) s ≡ (call c naming k (state_after c naming ks s)).1
state_after-append c naming [] k s = refl
state_after-append c naming (j ∷ js) k s = state_after-append c naming js k (call c naming j s).1
