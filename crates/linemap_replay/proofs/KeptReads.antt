-- What calls leave of what is kept of units.
use Rattle.std.proofs.Common.{◌≡◌, ◌⊎◌, inl, inr, ℕ, ◌+◌, List, map, take, Option, Result, refl, sym, ◌∙◌, subst}
use Rattle.addr2line_context.specs.AnsweredContexts.{AnsweredContext}
use Rattle.addr2line_context.specs.ContextCosts.{AfterSearch, AfterStep, AsksForNext, AsksForRange, AsksForStretches, Search, stretch_looks}
use Rattle.addr2line_context.specs.Contexts.{FileContext}
use Rattle.addr2line_context.specs.DwarfFiles.{DwarfFile}
use Rattle.addr2line_context.specs.Error.{Error}
use Rattle.addr2line_context.specs.FirstAnswers.{Lookup}
use Rattle.addr2line_context.specs.KeptContexts.{ResolvedContext}
use Rattle.addr2line_context.specs.KeptUnits.{ReadsAsked, ReadsAskedFunctions, ReadsNoFunctions, ReadsNoLines}
use Rattle.addr2line_context.specs.LookupCosts.{AtMostLooks, TakesLooks}
use Rattle.addr2line_context.specs.RangeWalk.{RangeWalk}
use Rattle.addr2line_context.specs.ResolvedUnits.{ResolvedUnit}
use Rattle.addr2line_context.proofs.RangeUnits.{asked_on_way}
use Rattle.linemap_replay.specs.CallEffects.{AsksAfterLoads, KeepsAfterLookup, KeepsAndReads}
use Rattle.linemap_replay.specs.Replays.{resume_with_all}
use Rattle.linemap_replay.proofs.PartAnswers.{part_reached}

-- ---- any units

-- no lines were read
pub reads_no_lines : (asks : ℕ → Type 0) (old new : List ResolvedUnit) → ReadsNoLines old new
    → ReadsAsked asks old new
reads_no_lines asks old new none number h = inl (none number h)

-- no functions were read
pub reads_no_functions : (asks : ℕ → Type 0) (old new : List ResolvedUnit) → ReadsNoFunctions old new
    → ReadsAskedFunctions asks old new
reads_no_functions asks old new none number h = inl (none number h)

-- what is kept was kept before, or is asked for
or_before : {K L P : Type 0} → (K → L ⊎ P) → K ⊎ P → L ⊎ P
or_before before (inl kept) = before kept
or_before before (inr asked) = inr asked

-- more may be asked for
or_wider : {K P Q : Type 0} → (P → Q) → K ⊎ P → K ⊎ Q
or_wider wider (inl kept) = inl kept
or_wider wider (inr asked) = inr (wider asked)

module _ (asks_lines asks_functions : ℕ → Type 0) where
  pub by_looks : (n : ℕ) (old new : List ResolvedUnit) → AtMostLooks n old new → ReadsAsked asks_lines old new
      → ReadsAskedFunctions asks_functions old new → KeepsAndReads asks_lines asks_functions old new
  by_looks n old new cost reads_lines reads_functions = record {
    counters = cost.counters;
    lines = cost.more;
    functions = cost.functions;
    reads_lines = reads_lines;
    reads_functions = reads_functions;
  }

  -- a step of a walk
  pub by_step : (before after : ℕ) (old new : List ResolvedUnit) → TakesLooks before after old new
      → ReadsAsked asks_lines old new → ReadsAskedFunctions asks_functions old new
      → KeepsAndReads asks_lines asks_functions old new
  by_step before after old new cost reads_lines reads_functions = record {
    counters = cost.counters;
    lines = cost.more;
    functions = cost.functions;
    reads_lines = reads_lines;
    reads_functions = reads_functions;
  }

  pub keeps_same : (us : List ResolvedUnit) → KeepsAndReads asks_lines asks_functions us us
  keeps_same us = record {
    counters = refl;
    lines = λ n h. h;
    functions = record { functions = λ n h. h; calls = λ k n h. h };
    reads_lines = λ n h. inl h;
    reads_functions = λ n h. inl h;
  }

  -- one call after another
  pub keeps_then : (us vs ws : List ResolvedUnit) → KeepsAndReads asks_lines asks_functions us vs
      → KeepsAndReads asks_lines asks_functions vs ws → KeepsAndReads asks_lines asks_functions us ws
  keeps_then us vs ws f g = record {
    counters = g.counters ∙ f.counters;
    lines = λ n h. g.lines n (f.lines n h);
    functions =
        record {
          functions = λ n h. g.functions.functions n (f.functions.functions n h);
          calls = λ k n h. g.functions.calls k n (f.functions.calls k n h);
        };
    reads_lines = λ n h. or_before (f.reads_lines n) (g.reads_lines n h);
    reads_functions = λ n h. or_before (f.reads_functions n) (g.reads_functions n h);
  }

-- more units may be asked
pub keeps_wider : (P Q R S : ℕ → Type 0) → ((n : ℕ) → P n → Q n) → ((n : ℕ) → R n → S n) → (us vs : List ResolvedUnit)
    → KeepsAndReads P R us vs → KeepsAndReads Q S us vs
keeps_wider P Q R S more_lines more_functions us vs f = record {
  counters = f.counters;
  lines = f.lines;
  functions = f.functions;
  reads_lines = λ n h. or_wider (more_lines n) (f.reads_lines n h);
  reads_functions = λ n h. or_wider (more_functions n) (f.reads_functions n h);
}

-- ---- calls that read nothing

pub reads_nothing : (n : ℕ) (old new : List ResolvedUnit) → AtMostLooks n old new → ReadsNoLines old new
    → ReadsNoFunctions old new → KeepsAndReads (λ n. ⊥) (λ n. ⊥) old new
reads_nothing n old new cost lines functions =
    by_looks (λ n. ⊥) (λ n. ⊥) n old new cost (reads_no_lines (λ n. ⊥) old new lines)
    (reads_no_functions (λ n. ⊥) old new functions)

-- where some may be asked
keeps_of_none : (Q S : ℕ → Type 0) (us vs : List ResolvedUnit) → KeepsAndReads (λ n. ⊥) (λ n. ⊥) us vs
    → KeepsAndReads Q S us vs
keeps_of_none Q S = keeps_wider (λ n. ⊥) Q (λ n. ⊥) S (λ n no. absurd no) (λ n no. absurd no)

-- ---- lookups of an address

-- a search reads of no units but those that it asks
pub searched : (search : Search) (memory : Type 0) (a : ℕ) (old new : ResolvedContext)
    → AfterSearch search memory a old new
    → KeepsAndReads (search.asks old.value a) (search.asks old.value a) old.units new.units
searched search memory a old new after =
    by_looks (search.asks old.value a) (search.asks old.value a) (search.looks old.value a) old.units new.units
    after.cost after.reads after.functions

module _ {A : Type 0} (lookup : AnsweredContext → ℕ → Lookup A) (asks : AnsweredContext → ℕ → ℕ → Type 0)
    (start : AnsweredContext) (a : ℕ) (file : ℕ → Option DwarfFile) (places : List ℕ) where
  abbrev asked : ℕ → Type 0
  asked = AsksAfterLoads lookup asks start a (map file places)

  -- it asks with the answers at some first places
  asked_there : (i : ℕ) (v : AnsweredContext) → v.plain ≡ start.plain
      → v.answers ≡ (resume_with_all lookup start a (map file (take i places))).1 → (n : ℕ) → asks v a n → asked n
  asked_there i v same answers n h = (
    v.answers,
    part_reached lookup a start file places i v.answers answers,
    subst (λ (p : FileContext). asks (record { plain = p; answers = v.answers }) a n) same h,
  )

  -- after a search with these
  pub keeps_search : (i : ℕ) (v : AnsweredContext) → v.plain ≡ start.plain
      → v.answers ≡ (resume_with_all lookup start a (map file (take i places))).1 → (us vs ws : List ResolvedUnit)
      → KeepsAfterLookup lookup asks start a (map file places) us vs → KeepsAndReads (asks v a) (asks v a) vs ws
      → KeepsAfterLookup lookup asks start a (map file places) us ws
  keeps_search i v same answers us vs ws before after =
      keeps_then asked asked us vs ws before
      (keeps_wider (asks v a) asked (asks v a) asked (asked_there i v same answers) (asked_there i v same answers)
      vs ws after)

  -- after an answer to a load
  pub keeps_answer : (us vs ws : List ResolvedUnit) → KeepsAfterLookup lookup asks start a (map file places) us vs
      → KeepsAndReads (λ n. ⊥) (λ n. ⊥) vs ws → KeepsAfterLookup lookup asks start a (map file places) us ws
  keeps_answer us vs ws before after =
      keeps_then asked asked us vs ws before (keeps_of_none asked asked vs ws after)

-- ---- walks between two ends

-- a walk asks no units but those with a range between two ends
abbrev pub AsksBetween : AnsweredContext → ℕ → ℕ → RangeWalk → Type 0
AsksBetween c low high w = (n : ℕ) → AsksForStretches c w n → AsksForRange c low high n

module _ {A : Type 0} (result : Result A Error) (old_walk new_walk : RangeWalk) (old new : ResolvedContext)
    (after : AfterStep result old_walk new_walk old new) (start : AnsweredContext) (same : old.value ≡ start)
    (low high : ℕ) (between : AsksBetween start low high old_walk) where
  -- after a step the walk asks no other units
  pub still_between : AsksBetween start low high new_walk
  still_between n h =
      between n
      (subst (λ (x : AnsweredContext). AsksForStretches x old_walk n) same
      (after.way n (subst (λ (x : AnsweredContext). AsksForStretches x new_walk n) (sym same) h)))

  asked_next : (n : ℕ) → AsksForNext old.value old_walk n → AsksForRange start low high n
  asked_next n h =
      between n
      (subst (λ (x : AnsweredContext). AsksForStretches x old_walk n) same (asked_on_way _ _ old_walk n h))

  pub keeps_step : (us : List ResolvedUnit)
      → KeepsAndReads (AsksForRange start low high) (λ n. ⊥) us old.units
      → KeepsAndReads (AsksForRange start low high) (λ n. ⊥) us new.units
  keeps_step us before =
      keeps_then (AsksForRange start low high) (λ n. ⊥) us old.units new.units before
      (by_step (AsksForRange start low high) (λ n. ⊥) (stretch_looks old.value old_walk + 3)
      (stretch_looks old.value new_walk) old.units new.units after.cost
      (λ n h. or_wider (asked_next n) (after.reads n h))
      (reads_no_functions (λ n. ⊥) old.units new.units after.functions))
