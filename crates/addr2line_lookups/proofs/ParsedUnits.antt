-- A walk over the units of a context is one over their values.
use Rattle.std.proofs.Common.{◌≡◌, ℕ, zero, suc, ◌+◌, ◌≤◌, List, [], ◌∷◌, ◌++◌, length, map, set, take, Option, None, Result, Ok, Err, refl, sym, ap, ◌∙◌, subst, append_assoc, arith}
use Rattle.std.proofs.lemmas.List.{length-map, take_all}
use Rattle.std.proofs.lemmas.List.Elements.{All-head, All-tail}
use Rattle.addr2line_unit.specs.Error.{Error}
use Rattle.addr2line_unit.specs.DwarfFiles.{DwarfFile}
use Rattle.addr2line_unit.specs.UnitFacts.{in_file}
use Rattle.addr2line_unit.specs.FirstAnswers.{FirstAnswer, FirstAnswers, Lookup, recorded_answer, decision, first_or, with_answer, load_of}
use Rattle.addr2line_unit.specs.Contexts.{ContextUnit, FileContext}
use Rattle.addr2line_unit.specs.Histories.{parse_from, unless_refused as unless_refused_before}
use Rattle.addr2line_unit.specs.ResolvedUnits.{AnsweredUnit, main_unit, first_answer}
use Rattle.addr2line_unit.proofs.NewUnits.{unit_of}
use Rattle.addr2line_lookups.specs.AnsweredUnits.{answers_of, IsOfFile, AreOfFile}
use Rattle.addr2line_lookups.specs.UnitParses.{without_load, unless_refused, walk_first, walk_all}
use Rattle.addr2line_lookups.proofs.AnsweredLoads.{decided_after, answers_after}
use Rattle.addr2line_lookups.proofs.UnitWalks.{Walked}

-- ---- lists

set_after : {A : Type 0} (before : List A) (x y : A) (after : List A)
    → set (before ++ x ∷ after) (length before) y ≡ before ++ y ∷ after
set_after [] x y after = refl
set_after (z ∷ before) x y after = ap (λ l. z ∷ l) (set_after before x y after)

recorded_after : (before : FirstAnswers) (x : Option FirstAnswer) (after : FirstAnswers)
    → recorded_answer (before ++ x ∷ after) (length before) ≡ x
recorded_after [] x after = refl
recorded_after (z ∷ before) x after = recorded_after before x after

length_after : {A : Type 0} (before : List A) (x : A) → length before + 1 ≡ length (before ++ x ∷ [])
length_after [] x = refl
length_after (z ∷ before) x = let later = length_after before x in omega (arith, later)

-- ---- units

-- What is said of a unit is what the definition says of it.
abbrev pub Says : DwarfFile → (ContextUnit → FirstAnswer → Result (Unit {0}) Error)
    → (AnsweredUnit → Result (Unit {0}) Error) → Type 0
Says file parse check = (v : AnsweredUnit) → v.file ≡ file → check v ≡ parse v.unit (first_answer v)

abbrev Parsed : Type 0
Parsed = Result (Unit {0}) Error × FirstAnswers

module _ (c : FileContext) (parse : ContextUnit → FirstAnswer → Result (Unit {0}) Error)
    (check : AnsweredUnit → Result (Unit {0}) Error) (says : Says c.file parse check) where
  abbrev with_answers_before : FirstAnswers → Walked → Parsed
  with_answers_before before r = (r.0, before ++ answers_of r.1)

  abbrev turn : ℕ → ContextUnit → List ContextUnit → FirstAnswers → Lookup FirstAnswer → Parsed
  turn k u us answers d =
      unless_refused_before (parse u (first_or d (Ok None))) (with_answer d (Ok None) answers)
      (parse_from c parse (k + 1) us)

  -- one unit's turn
  turn_of : (v : AnsweredUnit) (us : List ContextUnit) (before after : FirstAnswers) → v.file ≡ c.file
      → parse_from c parse (length before) (v.unit ∷ us) (before ++ v.first ∷ after)
      ≡ unless_refused_before (check (without_load v)) (before ++ (without_load v).first ∷ after)
      (parse_from c parse (length before + 1) us)
  turn_of v us before after of_file =
      let k = length before in
      let load = load_of (main_unit v) in
      let old = before ++ v.first ∷ after in
      ap (λ f. turn k v.unit us old (decision k (load_of (in_file f v.unit.facts)) (recorded_answer old k)))
      (sym of_file)
      ∙ ap (λ first. turn k v.unit us old (decision k load first)) (recorded_after before v.first after)
      ∙ ap (λ d. unless_refused_before (parse v.unit d) (with_answer (decision k load v.first) (Ok None) old)
      (parse_from c parse (k + 1) us)) (decided_after k load v.first (Ok None))
      ∙ ap (λ r. unless_refused_before r (with_answer (decision k load v.first) (Ok None) old)
      (parse_from c parse (k + 1) us)) (sym (says (without_load v) of_file))
      ∙ ap (λ l. unless_refused_before (check (without_load v)) l (parse_from c parse (k + 1) us))
      (answers_after k load v.first (Ok None) old (set_after before v.first v.first after)
      ∙ set_after before v.first (without_load v).first after)

  after_turn_of : (v : AnsweredUnit) (vs : List AnsweredUnit) (us : List ContextUnit) (before : FirstAnswers)
      (r : Result (Unit {0}) Error) (w : AnsweredUnit) (later : Walked)
      → parse_from c parse (length before + 1) us (before ++ w.first ∷ answers_of vs)
      ≡ with_answers_before (before ++ w.first ∷ []) later
      → unless_refused_before r (before ++ w.first ∷ answers_of vs) (parse_from c parse (length before + 1) us)
      ≡ with_answers_before before (unless_refused r w vs later)
  after_turn_of v vs us before (Ok x) w later h =
      h ∙ ap (λ l. (later.0, l)) (append_assoc before (w.first ∷ []) (answers_of later.1))
  after_turn_of v vs us before (Err e) w later h = refl

  -- the first of them
  parsed_by : (n : ℕ) (vs : List AnsweredUnit) (before : FirstAnswers) → AreOfFile c.file vs
      → parse_from c parse (length before) (take n (map unit_of vs)) (before ++ answers_of vs)
      ≡ with_answers_before before (walk_first check n vs)
  parsed_by zero vs before of_file = refl
  parsed_by (suc n) [] before of_file = refl
  parsed_by (suc n) (v ∷ vs) before of_file =
      let us = take n (map unit_of vs) in
      let w = without_load v in
      turn_of v us before (answers_of vs) (All-head (IsOfFile c.file) v vs of_file)
      ∙ after_turn_of v vs us before (check w) w (walk_first check n vs)
      (ap (λ k. parse_from c parse k us (before ++ w.first ∷ answers_of vs)) (length_after before w.first)
      ∙ ap (parse_from c parse (length (before ++ w.first ∷ [])) us)
      (sym (append_assoc before (w.first ∷ []) (answers_of vs)))
      ∙ parsed_by n vs (before ++ w.first ∷ []) (All-tail (IsOfFile c.file) v vs of_file))

  abbrev pub answers_alone : Walked → Parsed
  answers_alone r = (r.0, answers_of r.1)

  pub first_parsed : (n : ℕ) (vs : List AnsweredUnit) → AreOfFile c.file vs
      → parse_from c parse 0 (take n (map unit_of vs)) (answers_of vs) ≡ answers_alone (walk_first check n vs)
  first_parsed n vs of_file = parsed_by n vs [] of_file

  -- all of them
  pub all_parsed : (vs : List AnsweredUnit) → AreOfFile c.file vs
      → parse_from c parse 0 (map unit_of vs) (answers_of vs) ≡ answers_alone (walk_all check vs)
  all_parsed vs of_file =
      ap (λ us. parse_from c parse 0 us (answers_of vs))
      (sym (take_all (length vs) (map unit_of vs) (subst (λ k. k ≤ length vs) (sym (length-map vs unit_of)) most)))
      ∙ first_parsed (length vs) vs of_file
    where
      most : length vs ≤ length vs
      most = omega arith
