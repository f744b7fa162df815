-- What lookups of the frames of an address read, one after the other.
use Rattle.std.proofs.Common.{◌≡◌, ◌∙◌, ◌⊎◌, inl, inr, ℕ, List, Option, refl, sym, ap, subst}
use Rattle.addr2line_context.specs.AnsweredContexts.{AnsweredContext}
use Rattle.addr2line_context.specs.ContextCosts.{frame_search, AsksForFrames, AfterSearch}
use Rattle.addr2line_context.specs.Contexts.{FileContext}
use Rattle.addr2line_context.specs.DwarfFiles.{DwarfFile}
use Rattle.addr2line_context.specs.FirstAnswers.{FirstAnswers}
use Rattle.addr2line_context.specs.FrameLoads.{IsDone}
use Rattle.addr2line_context.specs.KeptContexts.{ResolvedContext}
use Rattle.addr2line_context.specs.KeptUnits.{KeepsAt, KeepsFunctionsAt, ReadsNoLines, ReadsNoFunctions}
use Rattle.addr2line_context.specs.LookupCosts.{AtMostLooks}
use Rattle.addr2line_context.specs.PassedUnits.{KeepsAskedFunctions}
use Rattle.addr2line_context.specs.ResolvedUnits.{ResolvedUnit}
use Rattle.addr2line_context.specs.SettledLookups.{frames_in, after_answer}
use Rattle.addr2line_context.specs.UnitLookups.{IsPending}
use Rattle.addr2line_context.proofs.FrameLoads.{waits_not}
use Rattle.addr2line_context.proofs.ResumedLookups.{with_memory}
use Rattle.addr2line_loader.specs.ResolvedFiles.{ReadsForFrames}
use Rattle.addr2line_loader.proofs.AskedUnits.{asks_still}

-- ---- one call

module _ (c : AnsweredContext) (a : ℕ) where
  -- a call that changes nothing
  pub reads_nothing : (us : List ResolvedUnit) → ReadsForFrames c a us us
  reads_nothing us = record {
    counters = refl;
    lines = λ n kept. kept;
    functions = record { functions = λ n kept. kept; calls = λ f n kept. kept };
    reads = λ n kept. inl kept;
    reads_functions = λ n kept. inl kept;
  }

  -- an answer
  pub reads_by_answer : (n : ℕ) (us vs : List ResolvedUnit) → AtMostLooks n us vs → ReadsNoLines us vs
      → ReadsNoFunctions us vs → ReadsForFrames c a us vs
  reads_by_answer n us vs cost lines functions = record {
    counters = cost.counters;
    lines = cost.more;
    functions = cost.functions;
    reads = λ k kept. inl (lines k kept);
    reads_functions = λ k kept. inl (functions k kept);
  }

  -- one that leaves another context, in which a lookup asks no other units
  pub reads_in : (last : AnsweredContext) → ((n : ℕ) → AsksForFrames c a n → AsksForFrames last a n)
      → (us vs : List ResolvedUnit) → ReadsForFrames c a us vs → ReadsForFrames last a us vs
  reads_in last asks us vs h = record {
    counters = h.counters;
    lines = h.lines;
    functions = h.functions;
    reads = λ n kept. by n (h.reads n kept);
    reads_functions = λ n kept. functions_by n (h.reads_functions n kept);
  }
    where
      functions_by : (n : ℕ) → KeepsFunctionsAt us n ⊎ AsksForFrames c a n
          → KeepsFunctionsAt us n ⊎ AsksForFrames last a n
      functions_by n (inl kept) = inl kept
      functions_by n (inr asked) = inr (asks n asked)

      by : (n : ℕ) → KeepsAt us n ⊎ AsksForFrames c a n → KeepsAt us n ⊎ AsksForFrames last a n
      by n (inl kept) = inl kept
      by n (inr asked) = inr (asks n asked)

  -- ---- one call after the other

  pub reads_both : (us vs ws : List ResolvedUnit) → ReadsForFrames c a us vs → ReadsForFrames c a vs ws
      → ReadsForFrames c a us ws
  reads_both us vs ws h k = record {
    counters = k.counters ∙ h.counters;
    lines = λ n kept. k.lines n (h.lines n kept);
    functions = record {
      functions = λ n kept. k.functions.functions n (h.functions.functions n kept);
      calls = λ f n kept. k.functions.calls f n (h.functions.calls f n kept);
    };
    reads = λ n kept. before n (k.reads n kept);
    reads_functions = λ n kept. functions_before n (k.reads_functions n kept);
  }
    where
      functions_before : (n : ℕ) → KeepsFunctionsAt vs n ⊎ AsksForFrames c a n
          → KeepsFunctionsAt us n ⊎ AsksForFrames c a n
      functions_before n (inl kept) = h.reads_functions n kept
      functions_before n (inr asked) = inr asked

      before : (n : ℕ) → KeepsAt vs n ⊎ AsksForFrames c a n → KeepsAt us n ⊎ AsksForFrames c a n
      before n (inl kept) = h.reads n kept
      before n (inr asked) = inr asked

-- a lookup, and calls before it
pub reads_then_search : {has_memory : Type 0} (a : ℕ) (us : List ResolvedUnit) (mid new : ResolvedContext)
    → ReadsForFrames mid.value a us mid.units → AfterSearch frame_search has_memory a mid new
    → ReadsForFrames new.value a us new.units
reads_then_search a us mid new h after =
    subst (λ (x : AnsweredContext). ReadsForFrames x a us new.units) (sym after.value)
    (reads_both mid.value a us mid.units new.units h
    (record {
      counters = after.cost.counters;
      lines = after.cost.more;
      functions = after.cost.functions;
      reads = after.reads;
      reads_functions = after.functions;
    }))

-- the functions of the units that it asks are kept
pub asked_by_search : {has_memory : Type 0} (a : ℕ) (mid new : ResolvedContext)
    → AfterSearch frame_search has_memory a mid new → has_memory
    → KeepsAskedFunctions (AsksForFrames new.value a) new.units
asked_by_search a mid new after has =
    subst (λ (x : AnsweredContext). KeepsAskedFunctions (AsksForFrames x a) new.units) (sym after.value)
    (after.asked has)

abbrev with_first_answers : FileContext → FirstAnswers → AnsweredContext
with_first_answers p first = record { plain = p; answers = first }

-- an answer to the first load, or none
pub asks_left : (old new : AnsweredContext) (a : ℕ) (file : Option DwarfFile) → new.plain ≡ old.plain
    → (new.answers ≡ (after_answer old a file).answers) ⊎ (new.answers ≡ old.answers) → (n : ℕ)
    → AsksForFrames old a n → AsksForFrames new a n
asks_left old new a file same left n asked = by left
  where
    with_answers : (first : FirstAnswers) → new.answers ≡ first → new ≡ record old { answers = first }
    with_answers first is = ap (λ p. with_first_answers p new.answers) same ∙ ap (with_first_answers old.plain) is

    by : (new.answers ≡ (after_answer old a file).answers) ⊎ (new.answers ≡ old.answers) → AsksForFrames new a n
    by (inl is) =
        subst (λ (x : AnsweredContext). AsksForFrames x a n) (sym (with_answers (after_answer old a file).answers is))
        (asks_still old a file n asked)
    by (inr is) = subst (λ (x : AnsweredContext). AsksForFrames x a n) (sym (with_answers old.answers is)) asked

-- ---- where the frames are found without an answer

-- no lookup waits
pub waits_somewhere : (a : ℕ) (old mid : ResolvedContext) → mid ≡ old → IsDone (frames_in old.value a)
    → IsPending (frames_in mid.value a) → ⊥
waits_somewhere a old mid same done waits =
    waits_not (frames_in old.value a) done
    (subst (λ (x : ResolvedContext). IsPending (frames_in x.value a)) same waits)

-- the lookup is the first
pub search_alone : (has_memory part_has : Type 0) (a : ℕ) (old mid new : ResolvedContext) → mid ≡ old
    → (has_memory → part_has) → AfterSearch frame_search part_has a mid new
    → AfterSearch frame_search has_memory a old new
search_alone has_memory part_has a old mid new same part after =
    subst (λ (x : ResolvedContext). AfterSearch frame_search has_memory a x new) same
    (with_memory frame_search has_memory part_has a mid new part after)
