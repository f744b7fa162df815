-- What a loader's lookup of frames leaves.
use Rattle.std.proofs.Common.{◌≡◌, ℕ, List, Option, Result, Ok, Err, ap, subst}
use Rattle.addr2line_context.specs.ContextCosts.{frame_search, AsksForFrames, AfterSearch}
use Rattle.addr2line_context.specs.Contexts.{FileContext}
use Rattle.addr2line_context.specs.Error.{Error}
use Rattle.addr2line_context.specs.FirstAnswers.{FirstAnswers, Lookup}
use Rattle.addr2line_context.specs.Frames.{Frame}
use Rattle.addr2line_context.specs.FrameLoads.{IsDone, DecidesFrames, GivesDecided}
use Rattle.addr2line_context.specs.KeptContexts.{ResolvedContext}
use Rattle.addr2line_context.specs.PassedUnits.{KeepsAskedFunctions}
use Rattle.addr2line_context.specs.ResolvedUnits.{ResolvedUnit}
use Rattle.addr2line_context.specs.SettledLookups.{frames_in}
use Rattle.addr2line_context.specs.declared.frame_loads.DecidedFrames.{DecidedFrames}
use Rattle.addr2line_loader.specs.LoadedFiles.{LoadedFile}
use Rattle.addr2line_loader.specs.ResolvedFiles.{ResolvedFile, ReadsForFrames, answered_context}
use Rattle.addr2line_loader.specs.SourceAnswers.{LoadState, load_state, frames_by_answers, Decides, DecidesOrNoMemory, AfterFrames}
use Rattle.addr2line_loader.proofs.AnsweredLoads.{finds_decided}

abbrev err_of_type : (F : Type 0) → Error → Result F Error
err_of_type F e = Err e

module _ {S F : Type 0} (answers : S → List ℕ → List ℕ → Result (Option (List ℕ)) Error → S → Type 0) (a : ℕ)
    (see : F → List Frame) (source : S) where
  abbrev with_context : LoadedFile → FileContext → FirstAnswers → LoadedFile
  with_context file context first = record file { context = context; answers = first }

  -- a file of this kind, over a context
  abbrev over_context : LoadedFile → ResolvedContext → ResolvedFile
  over_context file c = record { file = with_context file c.value.plain c.value.answers; units = c.units }

  -- the loads were answered in a context, and nothing else changed
  module _ {has_memory : Type 0} (inside : LoadedFile) (us : List ResolvedUnit) (answered : ResolvedContext)
      (source_after : S) (same : answered.value.plain ≡ inside.context)
      (reads : ReadsForFrames answered.value a us answered.units)
      (alone : IsDone (frames_in (answered_context inside) a)
      → AfterSearch frame_search has_memory a (record { value = answered_context inside; units = us }) answered) where
    abbrev after_loads : LoadState S
    after_loads = record { answers = answered.value.answers; source = source_after }

    same_file : (over_context inside answered).file ≡ record inside { answers = answered.value.answers }
    same_file = ap (λ x. with_context inside x answered.value.answers) same

    -- all were, and the frames that are decided are lent
    module _ (decided : DecidedFrames)
        (all : Decides answers inside.context a answered.units (load_state inside source) decided after_loads)
        (kept : KeepsAskedFunctions (AsksForFrames answered.value a) answered.units) (r : Result F Error)
        (lent : (meaning : Lookup (Result (List Frame) Error)) → DecidesFrames answered.units meaning decided
        → GivesDecided see r meaning) where
      pub finds_frames : (old : ResolvedFile) → record { file = inside; units = us } ≡ old
          → AfterFrames answers a see old source r (over_context inside answered) source_after
      finds_frames old is =
          subst (λ (x : ResolvedFile). AfterFrames answers a see x source r (over_context inside answered) source_after)
          is
          (record {
            found = record {
              same = same_file;
              finds =
                  finds_decided answers a inside.context (load_state inside source) see answered.units decided
                  after_loads all r
                  (lent (frames_by_answers inside.context a answered.value.answers) all.decides);
            };
            units = reads;
            asked = λ has. kept;
            cost = λ done. (alone done).cost;
          })

    -- out of memory before
    pub stops_frames : (e : Error)
        → DecidesOrNoMemory answers inside.context a answered.units (load_state inside source) (Err e) after_loads
        → (old : ResolvedFile) → record { file = inside; units = us } ≡ old
        → AfterFrames answers a see old source (err_of_type F e) (over_context inside answered) source_after
    stops_frames e some old is =
        subst (λ (x : ResolvedFile). AfterFrames answers a see x source (err_of_type F e) (over_context inside answered)
        source_after) is
        (record {
          found = record { same = same_file; finds = (λ other. absurd (other some.0), λ memory. some.1) };
          units = reads;
          asked = λ other. absurd (other (ap (err_of_type F) some.0));
          cost = λ done. (alone done).cost;
        })
