-- Loads that a source's files answer, one after the other.
use Rattle.std.proofs.Common.{◌≡◌, ◌⊎◌, inl, inr, ℕ, List, [], ◌∷◌, ◌++◌, Option, Result, Ok, Err, OnOk, IfErr, refl, sym, ap, ◌∙◌, subst}
use Rattle.std.proofs.lemmas.Fn.{FoldsTo-push}
use Rattle.addr2line_context.specs.Contexts.{FileContext}
use Rattle.addr2line_context.specs.DwarfFiles.{DwarfFile}
use Rattle.addr2line_context.specs.Error.{Error}
use Rattle.addr2line_context.specs.Error.TheVariants.{Memory}
use Rattle.addr2line_context.specs.FirstAnswers.{SplitLoad}
use Rattle.addr2line_context.specs.Frames.{Frame}
use Rattle.addr2line_context.specs.AnsweredContexts.{AnsweredContext}
use Rattle.addr2line_context.specs.FrameLoads.{DecidesFrames, GivesDecided}
use Rattle.addr2line_context.specs.ResolvedUnits.{ResolvedUnit}
use Rattle.addr2line_context.specs.SettledLookups.{frames_in, loads_in, LoadOf, answers_with_first, after_answer}
use Rattle.addr2line_context.specs.UnitLookups.{IsPending}
use Rattle.addr2line_context.specs.declared.frame_loads.DecidedFrames.{DecidedFrames}
use Rattle.addr2line_context.proofs.FrameLoads.{first_load_of_frames}
use Rattle.addr2line_split.specs.SplitLoading.{GetsFile}
use Rattle.addr2line_loader.specs.SourceAnswers.{LoadState, frames_by_answers, AnswersLoad, AnswersLoads, MayAsk, Finds, Stops, AnswersOneOrNoMemory, Decides, DecidesOrNoMemory, FindsAsOrNoMemory}

abbrev ok_load : SplitLoad → Result SplitLoad Error
ok_load load = Ok load

-- what a call gives of the first load is what the frames wait for
pub first_load_is : (c : AnsweredContext) (a : ℕ) (waits : IsPending (frames_in c a)) (load : SplitLoad)
    → LoadOf (loads_in c a) (Ok load) → waits.0.load ≡ load
first_load_is c a waits load h =
    let is : ok_load waits.0.load ≡ ok_load load =
    subst (λ ps. LoadOf ps (Ok load)) (first_load_of_frames c a waits.0 waits.1).1 h in cc

module _ {S : Type 0} (answers : S → List ℕ → List ℕ → Result (Option (List ℕ)) Error → S → Type 0) (a : ℕ) where
  -- ---- one load

  module _ (old new : AnsweredContext) (source source_after : S) (file : Option DwarfFile)
      (waits : IsPending (frames_in old a)) (gets : GetsFile answers waits.0.load source (Ok file) source_after) where
    abbrev before_load : LoadState S
    before_load = record { answers = old.answers; source = source }

    abbrev after_load : LoadState S
    after_load = record { answers = new.answers; source = source_after }

    abbrev IsAnswered : Type 0
    IsAnswered = new.answers ≡ (after_answer old a file).answers

    one_load : IsAnswered → AnswersLoad answers old.plain a before_load file after_load
    one_load is = record {
      wait = waits.0;
      waits = waits.1;
      gets = gets;
      answers_are = is ∙ ap (λ ps. answers_with_first old ps file) (first_load_of_frames old a waits.0 waits.1).1;
    }

    pub answers_one : (r : Result (Unit {0}) Error) → OnOk r IsAnswered → IsAnswered ⊎ (new.answers ≡ old.answers)
        → IfErr r (λ e. e ≡ Memory) → AnswersOneOrNoMemory answers old.plain a before_load r after_load
    answers_one (Ok done) is left memory = (file, one_load is)
    answers_one (Err e) is (inl answered) memory = (memory, inr (file, one_load answered))
    answers_one (Err e) is (inr same) memory = (memory, inl (same, inr (waits.0, Ok file, waits.1, gets)))

  -- ---- one after the other

  module _ (c : FileContext) (old : LoadState S) where
    abbrev pub AnsweredTo : LoadState S → Type 0
    AnsweredTo after = (files : List (Option DwarfFile)) × AnswersLoads answers c a old files after

    module _ (other : FileContext) (same : other ≡ c) (last mid : LoadState S) (is : mid ≡ last)
        (loads : AnsweredTo last)
        (after : LoadState S) where
      one_more : (file : Option DwarfFile) → AnswersLoad answers other a mid file after → AnsweredTo after
      one_more file load =
          let here = subst (λ b. AnswersLoad answers c a b file after) is
          (subst (λ x. AnswersLoad answers x a mid file after) same load) in
          (loads.0 ++ file ∷ [], FoldsTo-push (AnswersLoad answers c a) old loads.0 last file after loads.1 here)

      pub answers_more : AnswersOneOrNoMemory answers other a mid (Ok tt) after → AnsweredTo after
      answers_more h = one_more h.0 h.1

      pub stops_at : (us : List ResolvedUnit) (e : Error) → AnswersOneOrNoMemory answers other a mid (Err e) after
          → DecidesOrNoMemory answers c a us old (Err e) after
      stops_at us e h = (h.0, by h.1)
        where
          by : MayAsk answers other a mid after
              ⊎ ((file : Option DwarfFile) × AnswersLoad answers other a mid file after)
              → Stops answers c a old after
          by (inl asks) = record {
            files = loads.0;
            last = last;
            loads = loads.1;
            asks =
                subst (λ b. MayAsk answers c a b after) is (subst (λ x. MayAsk answers x a mid after) same asks);
          }
          by (inr one) =
              let more = one_more one.0 one.1 in record {
                files = more.0;
                last = after;
                loads = more.1;
                asks = (refl, inl refl);
              }

    pub stops_before : (us : List ResolvedUnit) (last mid : LoadState S) → mid ≡ last → AnsweredTo last → (e : Error)
        → e ≡ Memory → DecidesOrNoMemory answers c a us old (Err e) mid
    stops_before us last mid is loads e memory = (
      memory,
      record {
        files = loads.0;
        last = last;
        loads = loads.1;
        asks = subst (λ b. MayAsk answers c a last b) (sym is) (refl, inl refl);
      },
    )

    pub all_answered : (us : List ResolvedUnit) (decided : DecidedFrames) (last mid : LoadState S) → mid ≡ last
        → AnsweredTo last → (other : FileContext) → other ≡ c
        → DecidesFrames us (frames_by_answers other a last.answers) decided → Decides answers c a us old decided mid
    all_answered us decided last mid is loads other same decides =
        subst (Decides answers c a us old decided) (sym is) (record {
          files = loads.0;
          loads = loads.1;
          decides = subst (λ x. DecidesFrames us (frames_by_answers x a last.answers) decided) same decides;
        })

    -- what is found then
    pub finds_decided : {F : Type 0} (see : F → List Frame) (us : List ResolvedUnit) (decided : DecidedFrames)
        (new : LoadState S) → Decides answers c a us old decided new → (r : Result F Error)
        → GivesDecided see r (frames_by_answers c a new.answers) → FindsAsOrNoMemory answers c a see old r new
    finds_decided see us decided new all (Ok x) found =
        record { files = all.files; loads = all.loads; is_found = found }
    finds_decided see us decided new all (Err e) found = (
      λ other. record { files = all.files; loads = all.loads; is_found = found other },
      λ memory. record { files = all.files; last = new; loads = all.loads; asks = (refl, inl refl) },
    )
