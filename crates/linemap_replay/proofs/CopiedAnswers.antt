-- Copies of what calls answer.
use Rattle.std.proofs.Common.{◌≡◌, ◌≢◌, inl, inr, Result, Ok, Err, OnOk, sym, ap, ◌∙◌, subst}
use Rattle.addr2line_context.specs.Calls.{ReturnsOrNoMemory}
use Rattle.addr2line_context.specs.ContextParses.{ParsesOrNoMemory}
use Rattle.addr2line_context.specs.Contexts.{ContextUnit, FileContext}
use Rattle.addr2line_context.specs.Error.{Error}
use Rattle.addr2line_context.specs.Error.TheVariants.{Memory}
use Rattle.addr2line_context.specs.FirstAnswers.{FirstAnswer, FirstAnswers, Lookup, output}
use Rattle.addr2line_context.specs.Histories.{CallAnswer, completion, answer_or_suspension, parse_all}
use Rattle.addr2line_context.specs.LoadAnswers.{AnswersOrNoMemory}
use Rattle.addr2line_context.specs.UnitLookups.{IsPending}
use Rattle.addr2line_context.specs.OwnedPlaces.{CopiesOrNoMemory}
use Rattle.linemap_replay.specs.declared.answer.Answer.{Answer}
use Rattle.linemap_replay.specs.Outcomes.{Refuses, Completes}
use Rattle.linemap_replay.specs.OwnedAnswers.{CopiedAnswer, dropped_lookup, refusal, answer_of, copied_answer, copied_or_refusal}

-- ---- results

-- what was found
pub found_copy : {A : Type 0} (copy : A → CopiedAnswer) (meaning : Result A Error) (x y : A) → meaning ≡ Ok x → y ≡ x
    → copy y ≡ copied_or_refusal copy meaning
found_copy copy meaning x y is same = ap copy same ∙ sym (ap (copied_or_refusal copy) is)

-- what refused it
pub refused_copy : {A : Type 0} (copy : A → CopiedAnswer) (meaning : Result A Error) (e : Error)
    (r : Result Answer Error)
    → (e ≢ Memory → meaning ≡ Err e) → Refuses e r → CopiesOrNoMemory answer_of r (copied_or_refusal copy meaning)
refused_copy copy meaning e (Ok answer) is h = h.1 ∙ sym (ap (copied_or_refusal copy) (is h.0))
refused_copy copy meaning e (Err d) is h = h.1

-- ---- ends of calls

pub completion_copy : (done meaning : Result (Unit {0}) Error) (r : Result Answer Error)
    → (done ≢ Err Memory → meaning ≡ done) → Completes done r
    → CopiesOrNoMemory answer_of r (copied_answer (completion meaning))
completion_copy done meaning (Ok answer) is h =
    h.1 ∙ ap (λ (m : Result (Unit {0}) Error). copied_answer (completion m)) (sym (is h.0))
completion_copy done meaning (Err e) is h = h.1

-- what holds of a call that ended
pub if_completed : (done : Result (Unit {0}) Error) (r : Result Answer Error) (P : Type 0) → (done ≢ Err Memory → P)
    → Completes done r → OnOk r P
if_completed done (Ok answer) P ended h = ended h.0
if_completed done (Err e) P ended h = tt

abbrev err_of : Error → Result (Unit {0}) Error
err_of e = Err e

pub meaning_is_result : (done meaning : Result (Unit {0}) Error) → ReturnsOrNoMemory done meaning → done ≢ Err Memory
    → meaning ≡ done
meaning_is_result (Ok x) meaning h other = h
meaning_is_result (Err e) meaning h other = h (λ is. other (ap err_of is))

pub meaning_is_answer : {S : Type 0} (done : Result (Unit {0}) Error) (old new : S)
    (meaning : Result (Unit {0}) Error × S) → AnswersOrNoMemory done old new meaning
    → done ≢ Err Memory → meaning ≡ (done, new)
meaning_is_answer done old new meaning (inl is) other = is
meaning_is_answer done old new meaning (inr none) other = absurd (other none.0)

pub meaning_is_parse : (c : FileContext) (parse : ContextUnit → FirstAnswer → Result (Unit {0}) Error)
    (done : Result (Unit {0}) Error) (old new : FirstAnswers)
    → ParsesOrNoMemory c parse done old new → done ≢ Err Memory → parse_all c parse old ≡ (done, new)
meaning_is_parse c parse done old new (inl is) other = is
meaning_is_parse c parse done old new (inr none) other = absurd (other none.0)

-- ---- lookups

module _ {A : Type 0} (kind : A → CallAnswer) (l : Lookup A) where
  abbrev copied : Lookup A → CopiedAnswer
  copied m = copied_answer (answer_or_suspension kind m)

  -- it waits
  pub suspended_copy : IsPending l → dropped_lookup ≡ copied l
  suspended_copy waits = sym (ap copied waits.1)

  -- it found something
  pub output_copy : (x : A) (c : CopiedAnswer) → l ≡ output x → c ≡ copied_answer (kind x) → c ≡ copied l
  output_copy x c there same = same ∙ sym (ap copied there)

  -- it was refused
  pub refused_output : (x : A) (e : Error) (given : Result Answer Error) → (e ≢ Memory → l ≡ output x)
      → copied_answer (kind x) ≡ refusal e → Refuses e given → CopiesOrNoMemory answer_of given (copied l)
  refused_output x e (Ok answer) there same h = h.1 ∙ sym same ∙ sym (ap copied (there h.0))
  refused_output x e (Err d) there same h = h.1

-- what is left of a lookup that was resumed
module _ {A : Type 0} (r : Lookup A × FirstAnswers) (l : Lookup A) (mid : FirstAnswers) (is : r ≡ (l, mid)) where
  pub resumed_copy : (kind : A → CallAnswer) (given : Result Answer Error)
      → CopiesOrNoMemory answer_of given (copied_answer (answer_or_suspension kind l))
      → CopiesOrNoMemory answer_of given (copied_answer (answer_or_suspension kind r.0))
  resumed_copy kind given h =
      subst (λ (x : Lookup A × FirstAnswers). CopiesOrNoMemory answer_of given
      (copied_answer (answer_or_suspension kind x.0))) (sym is) h

  pub last_answers : (new : FirstAnswers) → new ≡ mid → new ≡ r.1
  last_answers new same = same ∙ sym (ap (λ (x : Lookup A × FirstAnswers). x.1) is)
