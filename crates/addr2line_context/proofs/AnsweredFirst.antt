-- A lookup waits for the first load of its address, and an answer to it leaves fewer.
use Rattle.std.proofs.Common.{◌≡◌, ℕ, ◌+◌, ◌<◌, ◌≤◌, Bool, not, cond, List, [], ◌∷◌, length, filter, set, slice_get, Option, Some, None, Result, Ok, Err, refl, sym, ap, ◌∙◌, subst, arith}
use Rattle.std.specs.List.{filter_map, cons_option}
use Rattle.std.proofs.lemmas.Bool.{eq-eqb}
use Rattle.std.proofs.lemmas.Option.{slice_get_within}
use Rattle.std.proofs.lemmas.List.Filters.{length-filter_both}
use Rattle.addr2line_lookups.specs.Error.{Error}
use Rattle.addr2line_lookups.specs.DwarfFiles.{DwarfFile}
use Rattle.addr2line_lookups.specs.FirstAnswers.{SplitLoad, FirstAnswer, FirstAnswers, PendingLoad, Lookup, output, pending, decision, load_of, recorded_answer, answer_of, with_answer}
use Rattle.addr2line_lookups.specs.Lookups.{first_output, load_in, map_output, unit_in as main_unit_in, decision_of, frames_under, unit_under, is_answer, is_there, one_each, other_than, loads, answer_unit_if_any, answer_load}
use Rattle.addr2line_lookups.specs.Pairs.{Pair, covering_pairs}
use Rattle.addr2line_lookups.specs.ContextNames.{naming_in}
use Rattle.addr2line_lookups.specs.Contexts.{ContextUnit, FileContext, ranges_of}
use Rattle.addr2line_lookups.specs.UnitLookups.{IsPending}
use Rattle.addr2line_lookups.proofs.UnitAnswers.{Each, IsAt, covering_at}
use Rattle.addr2line_lookups.proofs.PendingLoads.{lookups_of, waits_for_first, first_of_each, takes_one, one_each_other}
use Rattle.addr2line_context.specs.AnsweredContexts.{AnsweredContext}
use Rattle.addr2line_context.specs.SettledLookups.{frames_in, unit_in, loads_in, answers_with_first, after_answer}

-- ---- a lookup that is pending has a load

abbrev pairs_of : FileContext → ℕ → List (Pair ContextUnit)
pairs_of c a = covering_pairs ranges_of c.context.units a

abbrev decide_in : AnsweredContext → Pair ContextUnit → Lookup FirstAnswer
decide_in c p = decision_of c.plain c.answers p.number p.unit

one_or_more : (ps : List PendingLoad) (p : PendingLoad) (rest : List PendingLoad) → ps ≡ p ∷ rest → 0 < length ps
one_or_more ps p rest is = rw is (omega arith)

waits_for : {A : Type 0} (is_something : A → Bool) (nothing : A) (ask : Pair ContextUnit → FirstAnswer → A)
    (c : AnsweredContext) (a : ℕ) (p : PendingLoad)
    → first_output is_something nothing (lookups_of (decide_in c) ask (pairs_of c.plain a)) ≡ pending p
    → (rest : List PendingLoad) × (loads_in c a ≡ p ∷ rest)
waits_for is_something nothing ask c a p h =
    first_of_each _ p
    (waits_for_first (decide_in c) is_something nothing ask (λ q (first : FirstAnswer). first) p (pairs_of c.plain a) h)

has_load : {A : Type 0} (is_something : A → Bool) (nothing : A) (ask : Pair ContextUnit → FirstAnswer → A)
    (c : AnsweredContext) (a : ℕ)
    → IsPending (first_output is_something nothing (lookups_of (decide_in c) ask (pairs_of c.plain a)))
    → 0 < length (loads_in c a)
has_load is_something nothing ask c a h =
    let first = waits_for is_something nothing ask c a h.0 h.1 in one_or_more (loads_in c a) h.0 first.0 first.1

pub frames_have_load : (c : AnsweredContext) (a : ℕ) → IsPending (frames_in c a) → 0 < length (loads_in c a)
frames_have_load c a h =
    has_load is_answer (Ok []) (λ p. frames_under c.plain (naming_in c.plain) a p.unit) c a h

pub unit_has_load : (c : AnsweredContext) (a : ℕ) → IsPending (unit_in c a) → 0 < length (loads_in c a)
unit_has_load c a h =
    has_load is_there None (λ p. unit_under c.plain (naming_in c.plain) a p.unit) c a h

-- ---- its first load is that of a unit

-- the unit of a load, which is pending
abbrev pub IsLoadOf : AnsweredContext → PendingLoad → ContextUnit → Type 0
IsLoadOf c p u =
    (slice_get c.plain.context.units p.number ≡ Some u) × (decision_of c.plain c.answers p.number u ≡ pending p)

pending_number : (n : ℕ) (load : Result (Option SplitLoad) Error) (first : Option FirstAnswer) (p : PendingLoad)
    → decision n load first ≡ pending p → n ≡ p.number
pending_number n (Ok None) first p h = absurd cc
pending_number n (Err e) first p h = absurd cc
pending_number n (Ok (Some l)) (Some x) p h = absurd cc
pending_number n (Ok (Some l)) None p h = cc

module _ (c : AnsweredContext) (p : PendingLoad) (rest : List PendingLoad) where
  abbrev pending_of : List (Pair ContextUnit) → List PendingLoad
  pending_of ps = filter_map load_in (lookups_of (decide_in c) (λ q (first : FirstAnswer). first) ps)

  unit_of_first : (ps : List (Pair ContextUnit)) → Each ranges_of (IsAt ranges_of c.plain.context.units) ps
      → pending_of ps ≡ p ∷ rest → (u : ContextUnit) × IsLoadOf c p u
  unit_of_first [] at h = absurd cc
  unit_of_first (q ∷ qs) at h = by (decide_in c q) refl h (unit_of_first qs at.1)
    where
      by : (d : Lookup FirstAnswer) → decide_in c q ≡ d
          → cons_option (load_in (map_output (λ (first : FirstAnswer). first) d)) (pending_of qs) ≡ p ∷ rest
          → (pending_of qs ≡ p ∷ rest → (u : ContextUnit) × IsLoadOf c p u)
          → (u : ContextUnit) × IsLoadOf c p u
      by (output x) is h later = later h
      by (pending w) is h later =
          let same : w ≡ p = cc in
          let waits : decide_in c q ≡ pending p = is ∙ ap pending same in
          let number : q.number ≡ p.number =
          pending_number q.number (load_of (main_unit_in c.plain q.unit)) (recorded_answer c.answers q.number) p waits
          in (
            q.unit,
            (
              ap (slice_get c.plain.context.units) (sym number) ∙ at.0,
              ap (λ n. decision_of c.plain c.answers n q.unit) (sym number) ∙ waits,
            ),
          )

-- the first of each unit's loads is the first of all
first_each : (ps : List PendingLoad) (p : PendingLoad) (rest : List PendingLoad) → one_each ps ≡ p ∷ rest
    → (all : List PendingLoad) × (ps ≡ p ∷ all)
first_each [] p rest h = absurd cc
first_each (q ∷ qs) p rest h = let same : q ≡ p = cc in (qs, ap (λ x. x ∷ qs) same)

pub first_load_of : (c : AnsweredContext) (a : ℕ) (p : PendingLoad) (rest : List PendingLoad)
    → loads_in c a ≡ p ∷ rest → (u : ContextUnit) × IsLoadOf c p u
first_load_of c a p rest is =
    let pairs = pairs_of c.plain a in
    let first = first_each (pending_of c p rest pairs) p rest is in
    unit_of_first c p first.0 pairs (covering_at ranges_of c.plain.context.units a) first.1

-- so is that for which a lookup waits
pub frames_wait_for : (c : AnsweredContext) (a : ℕ) (p : PendingLoad) → frames_in c a ≡ pending p
    → (u : ContextUnit) × IsLoadOf c p u
frames_wait_for c a p h =
    let first = waits_for is_answer (Ok []) (λ q. frames_under c.plain (naming_in c.plain) a q.unit) c a p h in
    first_load_of c a p first.0 first.1

pub unit_waits_for : (c : AnsweredContext) (a : ℕ) (p : PendingLoad) → unit_in c a ≡ pending p
    → (u : ContextUnit) × IsLoadOf c p u
unit_waits_for c a p h =
    let first = waits_for is_there None (λ q. unit_under c.plain (naming_in c.plain) a q.unit) c a p h in
    first_load_of c a p first.0 first.1

-- ---- an answer to it

shorter : (p : PendingLoad) (rest : List PendingLoad)
    → length (filter (other_than p.number) (p ∷ rest)) + 1 ≤ length (p ∷ rest)
shorter p rest =
    let test = other_than p.number in
    let both = length-filter_both test (λ q. not (test q)) (λ q. refl) rest in
    let here : length (filter test (p ∷ rest)) ≡ length (filter test rest) =
    ap (λ b. length (cond (not b) (p ∷ filter test rest) (filter test rest))) (eq-eqb p.number p.number refl) in
    omega (arith, both, here)

-- where there is a load, what is left of the loads after an answer to the first
module _ (c : AnsweredContext) (a : ℕ) (file : Option DwarfFile)
    (enough : length c.answers ≡ length c.plain.context.units) where
  abbrev decided_loads : FirstAnswers → List PendingLoad
  decided_loads answers = loads c.plain answers a

  module _ (p : PendingLoad) (rest : List PendingLoad) (is : loads_in c a ≡ p ∷ rest) where
    abbrev all_pending : List PendingLoad
    all_pending = pending_of c p rest (pairs_of c.plain a)

    its_unit : (u : ContextUnit) × IsLoadOf c p u
    its_unit = first_load_of c a p rest is

    abbrev later : FirstAnswer
    later = answer_of its_unit.0.facts file

    within : p.number < length c.answers
    within =
        subst (λ n. p.number < n) (sym enough)
        (slice_get_within c.plain.context.units p.number its_unit.0 its_unit.1.0)

    is_recorded : (answer_load c.plain c.answers p.number file).1 ≡ set c.answers p.number (Some later)
    is_recorded =
        ap (λ o. (answer_unit_if_any c.plain c.answers p.number o file).1) its_unit.1.0
        ∙ ap (λ d. with_answer d later c.answers) its_unit.1.1

    loads_left_over : decided_loads (answer_load c.plain c.answers p.number file).1
        ≡ filter (other_than p.number) (loads_in c a)
    loads_left_over =
        ap decided_loads is_recorded
        ∙ ap one_each
        (takes_one (λ (q : Pair ContextUnit). q.number) (λ q. load_of (main_unit_in c.plain q.unit)) c.answers p.number
        later within (pairs_of c.plain a))
        ∙ one_each_other p.number all_pending

    fewer_of : length (decided_loads (answer_load c.plain c.answers p.number file).1) + 1 ≤ length (loads_in c a)
    fewer_of =
        let left = ap length (loads_left_over ∙ ap (filter (other_than p.number)) is) in
        let whole = ap length is in omega (arith, shorter p rest, left, whole)

  fewer_by : (ps : List PendingLoad) → loads_in c a ≡ ps
      → 0 < length (decided_loads (answers_with_first c ps file))
      → length (decided_loads (answers_with_first c ps file)) + 1 ≤ length (loads_in c a)
  fewer_by [] is some = let none = ap length is in absurd (omega (arith, some, none))
  fewer_by (p ∷ rest) is some = fewer_of p rest is

  -- there are fewer
  pub fewer_loads : (new : AnsweredContext) → new ≡ after_answer c a file → 0 < length (loads_in new a)
      → length (loads_in new a) + 1 ≤ length (loads_in c a)
  fewer_loads new same some =
      subst (λ (x : AnsweredContext). length (loads_in x a) + 1 ≤ length (loads_in c a)) (sym same)
      (fewer_by (loads_in c a) refl (subst (λ (x : AnsweredContext). 0 < length (loads_in x a)) same some))
