-- What a loader's lookups of places and stretches leave, and when they aren't out of memory.
use Rattle.std.proofs.Common.{◌≡◌, ◌≢◌, ℕ, Result, Err, ap, subst}
use Rattle.addr2line_context.specs.AnsweredContexts.{AnsweredContext}
use Rattle.addr2line_context.specs.ContextCosts.{location_looks, AsksForPlace, AfterReading, AfterStep}
use Rattle.addr2line_context.specs.Error.{Error}
use Rattle.addr2line_context.specs.Error.TheVariants.{Memory}
use Rattle.addr2line_context.specs.KeptContexts.{ResolvedContext}
use Rattle.addr2line_context.specs.KeptUnits.{KeepsAsked}
use Rattle.addr2line_context.specs.RangeWalk.{RangeWalk}
use Rattle.addr2line_loader.specs.LoadedFiles.{LoadedFile}
use Rattle.addr2line_loader.specs.ResolvedFiles.{ResolvedFile, AfterPlace, AfterStretch, answered_context}

-- a file of this kind, over a context
abbrev pub over : LoadedFile → ResolvedContext → ResolvedFile
over f c = record { file = record f { context = c.value.plain; answers = c.value.answers }; units = c.units }

pub after_place : {A : Type 0} (f : LoadedFile) (before after : ResolvedContext) (a : ℕ) (r : Result A Error)
    → AfterReading (AsksForPlace before.value a) (location_looks before.value a) r before after
    → (old : ResolvedFile) → over f before ≡ old → AfterPlace a r old (over f after)
after_place f before after a r h old is =
    subst (λ (x : ResolvedFile). AfterPlace a r x (over f after)) is (record {
      file = ap (λ (v : AnsweredContext). record f { context = v.plain; answers = v.answers }) h.value;
      context = h;
    })

pub after_stretch : {A : Type 0} (f : LoadedFile) (before after : ResolvedContext) (r : Result A Error)
    (walk walk_after : RangeWalk) → AfterStep r walk walk_after before after
    → (old : ResolvedFile) → over f before ≡ old → AfterStretch r walk walk_after old (over f after)
after_stretch f before after r walk walk_after h old is =
    subst (λ (x : ResolvedFile). AfterStretch r walk walk_after x (over f after)) is (record {
      file = ap (λ (v : AnsweredContext). record f { context = v.plain; answers = v.answers }) h.value;
      context = h;
    })

-- the lines of the units that a call asks are kept
pub free_of : {A : Type 0} (asks : AnsweredContext → ℕ → Type 0) (f : LoadedFile) (before : ResolvedContext)
    (r : Result A Error) → (KeepsAsked (asks before.value) before.units → r ≢ Err Memory) → (old : ResolvedFile)
    → over f before ≡ old → KeepsAsked (asks (answered_context old.file)) old.units → r ≢ Err Memory
free_of asks f before r free old is =
    subst (λ (x : ResolvedFile). KeepsAsked (asks (answered_context x.file)) x.units → r ≢ Err Memory) is free

-- the same step with another result
pub stretch_with_result : {A B : Type 0} (r : Result A Error) (result : Result B Error) (walk walk_after : RangeWalk)
    (old new : ResolvedFile) → AfterStretch r walk walk_after old new → (result ≢ Err Memory → r ≢ Err Memory)
    → AfterStretch result walk walk_after old new
stretch_with_result r result walk walk_after old new h refused = record {
  file = h.file;
  context =
      record {
        value = h.context.value;
        cost = h.context.cost;
        asked = λ answered. h.context.asked (refused answered);
        reads = h.context.reads;
        functions = h.context.functions;
        way = h.context.way;
      };
}
