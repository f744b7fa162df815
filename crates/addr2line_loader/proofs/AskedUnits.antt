-- Units that a lookup of frames asks before a load is answered are asked after that too.
use Rattle.std.proofs.Common.{◌≡◌, inl, inr, ℕ, zero, suc, List, [], ◌∷◌, set, Option, Some, None, Result, Ok, Err, option_map, refl, sym, ap, ◌∙◌}
use Rattle.std.specs.Prelude.{slice_get, option_and_then}
use Rattle.addr2line_context.specs.AnsweredContexts.{AnsweredContext}
use Rattle.addr2line_context.specs.ContextCosts.{AsksForFrames, answered_unit, answered_units, units_with_answers, ranges_over}
use Rattle.addr2line_context.specs.Contexts.{ContextUnit}
use Rattle.addr2line_context.specs.DwarfFiles.{DwarfFile}
use Rattle.addr2line_context.specs.Error.{Error}
use Rattle.addr2line_context.specs.FirstAnswers.{FirstAnswer, FirstAnswers, PendingLoad, SplitLoad, answer_of, decision, load_of, output, recorded_answer, with_answer}
use Rattle.addr2line_context.specs.Lookups.{answer_load, answer_unit_if_any, unit_in}
use Rattle.addr2line_context.specs.PassedUnits.{AsksUntil, KnowsNothing}
use Rattle.addr2line_context.specs.Preloads.{load_at, numbered_load}
use Rattle.addr2line_context.specs.ResolvedUnits.{AnsweredUnit, pending_load}
use Rattle.addr2line_context.specs.SettledLookups.{after_answer, answers_with_first, loads_in}
use Rattle.addr2line_context.specs.UnitLookups.{ask_if_any, unless_waiting}

-- ---- one unit

set_other : {X : Type 0} (xs : List X) (m n : ℕ) (x : X) → (n ≡ m → ⊥) → slice_get (set xs m x) n ≡ slice_get xs n
set_other [] m n x other = refl
set_other (y ∷ ys) zero zero x other = absurd (other refl)
set_other (y ∷ ys) zero (suc n) x other = refl
set_other (y ∷ ys) (suc m) zero x other = refl
set_other (y ∷ ys) (suc m) (suc n) x other = set_other ys m n x (λ same. other (ap suc same))

-- the unit of a number, with what is recorded of it
unit_with_answer : (file : DwarfFile) (us : List ContextUnit) (answers : FirstAnswers) (n : ℕ)
    → slice_get (units_with_answers file us answers) n
    ≡ option_map (λ u. answered_unit file u (recorded_answer answers n)) (slice_get us n)
unit_with_answer file [] answers n = refl
unit_with_answer file (u ∷ us) [] zero = refl
unit_with_answer file (u ∷ us) [] (suc n) = unit_with_answer file us [] n
unit_with_answer file (u ∷ us) (first ∷ answers) zero = refl
unit_with_answer file (u ∷ us) (first ∷ answers) (suc n) = unit_with_answer file us answers n

-- a unit of which something is known needs no answer
needs_none : {A : Type 0} (o : Option PendingLoad) (x y : A) → unless_waiting o x ≡ output y → o ≡ None
needs_none None x y h = refl
needs_none (Some p) x y h = absurd cc

module _ (c : AnsweredContext) (m : ℕ) (file : Option DwarfFile) where
  abbrev units : List ContextUnit
  units = c.plain.context.units

  abbrev with_record : FirstAnswers → ℕ → Option ContextUnit → Option AnsweredUnit
  with_record answers n o = option_map (λ u. answered_unit c.plain.file u (recorded_answer answers n)) o

  abbrev after : FirstAnswers
  after = (answer_load c.plain c.answers m file).1

  -- an answer is recorded of none but a unit that needs it
  module _ (u : ContextUnit) (is : slice_get units m ≡ Some u) (n : ℕ) (none : load_at (answered_units c) n ≡ None)
    where
      needs_one : (load : SplitLoad) → load_of (unit_in c.plain u) ≡ Ok (Some load) → recorded_answer c.answers m ≡ None
          → n ≡ m → ⊥
      needs_one load has no_answer same =
          let at : load_at (answered_units c) m ≡ Some (numbered_load m load) =
          ap (λ o. option_map (numbered_load m) (option_and_then pending_load o))
          (unit_with_answer c.plain.file units c.answers m ∙ ap (with_record c.answers m) is)
          ∙ ap (option_map (numbered_load m)) (pending_is load has no_answer) in
          some_not load (sym at ∙ ap (load_at (answered_units c)) (sym same) ∙ none)
        where
          pending_is : (load : SplitLoad) → load_of (unit_in c.plain u) ≡ Ok (Some load)
              → recorded_answer c.answers m ≡ None
              → pending_load (answered_unit c.plain.file u (recorded_answer c.answers m)) ≡ Some load
          pending_is load has no_answer = rw (has, no_answer) refl

          some_not : (load : SplitLoad) → Some (numbered_load m load) ≡ None → ⊥
          some_not load h = cc

      same_record : (l : Result (Option SplitLoad) Error) (r : Option FirstAnswer) (later : FirstAnswer)
          → load_of (unit_in c.plain u) ≡ l → recorded_answer c.answers m ≡ r
          → recorded_answer (with_answer (decision m l r) later c.answers) n ≡ recorded_answer c.answers n
      same_record (Ok None) r later has recorded = refl
      same_record (Err e) r later has recorded = refl
      same_record (Ok (Some load)) (Some first) later has recorded = refl
      same_record (Ok (Some load)) None later has recorded =
          ap (option_and_then (λ x. x)) (set_other c.answers m n (Some later) (needs_one load has recorded))

  same_recorded : (n : ℕ) → load_at (answered_units c) n ≡ None → (o : Option ContextUnit) → slice_get units m ≡ o
      → recorded_answer (answer_unit_if_any c.plain c.answers m o file).1 n ≡ recorded_answer c.answers n
  same_recorded n none None is = refl
  same_recorded n none (Some u) is =
      same_record u is n none (load_of (unit_in c.plain u)) (recorded_answer c.answers m) (answer_of u.facts file) refl
      refl

  -- a unit that needs none stays as it is
  same_unit : (n : ℕ) → load_at (answered_units c) n ≡ None
      → slice_get (units_with_answers c.plain.file units after) n ≡ slice_get (answered_units c) n
  same_unit n none =
      unit_with_answer c.plain.file units after n
      ∙ ap (λ r. option_map (λ u. answered_unit c.plain.file u r) (slice_get units n))
      (same_recorded n none (slice_get units m) refl)
      ∙ sym (unit_with_answer c.plain.file units c.answers n)

  knows_nothing_still : {A : Type 0} (ask : AnsweredUnit → A) (nothing : A) (r : _)
      → KnowsNothing ask nothing (answered_units c) r
      → KnowsNothing ask nothing (units_with_answers c.plain.file units after) r
  knows_nothing_still ask nothing r h =
      let none = needs_none (load_at (answered_units c) r.unit) _ _ h in
      ap (λ o. unless_waiting (option_map (numbered_load r.unit) (option_and_then pending_load o))
      (ask_if_any ask nothing o)) (same_unit r.unit none)
      ∙ h

-- ---- the units of ranges

asks_until_still : {A : Type 0} (ask : AnsweredUnit → A) (nothing : A) (vs ws : List AnsweredUnit)
    → ((r : _) → KnowsNothing ask nothing vs r → KnowsNothing ask nothing ws r) → (rs : List _) (n : ℕ)
    → AsksUntil ask nothing vs rs n → AsksUntil ask nothing ws rs n
asks_until_still ask nothing vs ws still [] n h = h
asks_until_still ask nothing vs ws still (r ∷ rs) n (inl is) = inl is
asks_until_still ask nothing vs ws still (r ∷ rs) n (inr later) =
    inr (still r later.0, asks_until_still ask nothing vs ws still rs n later.1)

-- an answer to the first load
pub asks_still : (c : AnsweredContext) (a : ℕ) (file : Option DwarfFile) (n : ℕ) → AsksForFrames c a n
    → AsksForFrames (after_answer c a file) a n
asks_still c a file n h = by (loads_in c a)
  where
    by : (ps : List PendingLoad) → AsksForFrames (record c { answers = answers_with_first c ps file }) a n
    by [] = h
    by (p ∷ rest) =
        asks_until_still _ _ (answered_units c)
        (units_with_answers c.plain.file c.plain.context.units (answer_load c.plain c.answers p.number file).1)
        (knows_nothing_still c p.number file _ _) (ranges_over c a) n h
