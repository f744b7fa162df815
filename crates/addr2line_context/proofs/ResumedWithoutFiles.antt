-- A lookup that is resumed with no file for each load that it waits for.
use Rattle.std.proofs.Common.{◌≡◌, ℕ, zero, suc, ◌+◌, ◌<◌, ◌≤◌, [], ◌∷◌, length, replicate, set, Some, None, Ok, refl, sym, ap, ◌∙◌, subst, arith}
use Rattle.std.proofs.lemmas.Option.{slice_get_within}
use Rattle.std.proofs.Math.ListN.{length-set}
use Rattle.addr2line_lookups.specs.FirstAnswers.{FirstAnswer, FirstAnswers, PendingLoad, Lookup, output, pending, recorded_answer}
use Rattle.addr2line_lookups.specs.Lookups.{frames, unit, answer_load, if_output, resume, without_loads}
use Rattle.addr2line_lookups.specs.Contexts.{ContextUnit, FileContext}
use Rattle.addr2line_lookups.specs.ContextNames.{naming_in}
use Rattle.addr2line_context.specs.AnsweredContexts.{AnsweredContext}
use Rattle.addr2line_context.specs.SettledLookups.{frames_in, unit_in}
use Rattle.addr2line_context.specs.SkippedLoads.{answers_without_files, without_files}
use Rattle.addr2line_context.proofs.AnsweredFirst.{IsLoadOf, frames_wait_for, unit_waits_for}
use Rattle.addr2line_context.proofs.SkippedLoads.{none_recorded, none_is_recorded, same_answers_after, frames_still_found, unit_still_found}

-- ---- units without an answer

-- how many there are
abbrev pub unanswered_count : FirstAnswers → ℕ
unanswered_count [] = 0
unanswered_count (None ∷ answers) = unanswered_count answers + 1
unanswered_count (Some first ∷ answers) = unanswered_count answers

at_most : (answers : FirstAnswers) → unanswered_count answers ≤ length answers
at_most [] = omega arith
at_most (None ∷ answers) = let h = at_most answers in omega (arith, h)
at_most (Some first ∷ answers) = let h = at_most answers in omega (arith, h)

one_fewer : (answers : FirstAnswers) (n : ℕ) (first : FirstAnswer) → recorded_answer answers n ≡ None
    → n < length answers → unanswered_count (set answers n (Some first)) + 1 ≡ unanswered_count answers
one_fewer [] n first none within = absurd (omega (arith, within))
one_fewer (None ∷ answers) zero first none within = refl
one_fewer (Some x ∷ answers) zero first none within = absurd cc
one_fewer (None ∷ answers) (suc n) first none within =
    let h = one_fewer answers n first none (omega (arith, within)) in omega (arith, h)
one_fewer (Some x ∷ answers) (suc n) first none within = one_fewer answers n first none (omega (arith, within))

-- ---- answers by no file, one after the other

abbrev pub with_answers : FileContext → FirstAnswers → AnsweredContext
with_answers plain answers = record { plain = plain; answers = answers }

module _ {A : Type 0} (plain : FileContext) (lookup : FirstAnswers → Lookup A)
    (still : (answers : FirstAnswers) (found : A) → lookup answers ≡ output found
    → lookup (answers_without_files answers) ≡ output found)
    (waits : (answers : FirstAnswers) (p : PendingLoad) → lookup answers ≡ pending p
    → (u : ContextUnit) × IsLoadOf (with_answers plain answers) p u) where
  abbrev has_enough : FirstAnswers → Type 0
  has_enough answers = length answers ≡ length plain.context.units

  abbrev none_after : FirstAnswers → PendingLoad → FirstAnswers
  none_after answers p = (answer_load plain answers p.number None).1

  -- the load of a lookup that waits
  module _ (answers : FirstAnswers) (enough : has_enough answers) (p : PendingLoad) (is : lookup answers ≡ pending p)
    where
      abbrev its_unit : (u : ContextUnit) × IsLoadOf (with_answers plain answers) p u
      its_unit = waits answers p is

      recorded : none_after answers p ≡ set answers p.number (Some (Ok None))
      recorded = none_is_recorded (with_answers plain answers) p its_unit.0 its_unit.1

      fewer : unanswered_count (none_after answers p) + 1 ≡ unanswered_count answers
      fewer =
          ap (λ left. unanswered_count left + 1) recorded
          ∙ one_fewer answers p.number (Ok None) (none_recorded (with_answers plain answers) p its_unit.0 its_unit.1)
          (subst (λ n. p.number < n) (sym enough)
          (slice_get_within plain.context.units p.number its_unit.0 its_unit.1.0))

      still_enough : has_enough (none_after answers p)
      still_enough = ap length recorded ∙ length-set answers p.number (Some (Ok None)) ∙ enough

      same_after : answers_without_files (none_after answers p) ≡ answers_without_files answers
      same_after = same_answers_after (with_answers plain answers) p its_unit.0 its_unit.1

  abbrev resumed : ℕ → FirstAnswers → Lookup A
  resumed k answers = (resume plain lookup (replicate k None) answers).0

  pub finds_without_files : (k : ℕ) (answers : FirstAnswers) → has_enough answers → unanswered_count answers ≤ k
      → resumed k answers ≡ lookup (answers_without_files answers)
  finds_without_files zero answers enough few = by (lookup answers) refl
    where
      by : (l : Lookup A) → lookup answers ≡ l → lookup answers ≡ lookup (answers_without_files answers)
      by (output x) is = is ∙ sym (still answers x is)
      by (pending p) is = let h = fewer answers enough p is in absurd (omega (arith, few, h))
  finds_without_files (suc k) answers enough few = by (lookup answers) refl (finds_without_files k)
    where
      by : (l : Lookup A) → lookup answers ≡ l
          → ((left : FirstAnswers) → has_enough left → unanswered_count left ≤ k
          → resumed k left ≡ lookup (answers_without_files left))
          → (if_output l (λ x. (output x, answers))
          (λ p. resume plain lookup (replicate k None) (none_after answers p))).0
          ≡ lookup (answers_without_files answers)
      by (output x) is later = sym (still answers x is)
      by (pending p) is later =
          let h = fewer answers enough p is in
          later (none_after answers p) (still_enough answers enough p is) (omega (arith, few, h))
          ∙ ap lookup (same_after answers enough p is)

-- ---- frames and units

module _ (c : AnsweredContext) (a : ℕ) (enough : length c.answers ≡ length c.plain.context.units) where
  few : unanswered_count c.answers ≤ length c.plain.context.units
  few = let h = at_most c.answers in omega (arith, h, enough)

  pub frames_resumed : (without_loads c.plain (λ answers. frames c.plain (naming_in c.plain) answers a) c.answers).0
      ≡ frames_in (without_files c) a
  frames_resumed =
      finds_without_files c.plain (λ answers. frames c.plain (naming_in c.plain) answers a)
      (λ answers. frames_still_found (with_answers c.plain answers) a)
      (λ answers. frames_wait_for (with_answers c.plain answers) a) (length c.plain.context.units) c.answers enough few

  pub unit_resumed : (without_loads c.plain (λ answers. unit c.plain (naming_in c.plain) answers a) c.answers).0
      ≡ unit_in (without_files c) a
  unit_resumed =
      finds_without_files c.plain (λ answers. unit c.plain (naming_in c.plain) answers a)
      (λ answers. unit_still_found (with_answers c.plain answers) a)
      (λ answers. unit_waits_for (with_answers c.plain answers) a) (length c.plain.context.units) c.answers enough few
