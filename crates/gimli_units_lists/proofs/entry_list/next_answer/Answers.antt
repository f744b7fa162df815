-- Each entry that is skipped leaves what is to come as it was.
use Rattle.std.proofs.Common.{inl, inr, Option, option_map, Result, Ok, Err, Some, None, refl, sym, ◌∙◌, ap, subst}
use Rattle.gimli_core_readers.specs.Error.{Error}
use Rattle.gimli_core_readers.specs.View.{View}
use Rattle.gimli_units_lists.specs.Lists.{Resolution, ReadsSome}
use Rattle.gimli_units_lists.proofs.EntryReads.{reads_none, refusal_leaves, list_reads, list_ends_at_fault}
use Rattle.gimli_units_lists.proofs.ListRefusals.{refusal_is_next, refusal_takes, item_is_next}
use Rattle.gimli_units_lists.proofs.ListSteps.{list_step, list_fault, list_same, same_entries}
use Rattle.gimli_units_lists.proofs.ProgressLemmas.{passes_none, list_passes, list_stops, list_stops_at_fault, skips_all}
use Rattle.gimli_units_lists.proofs.entry_list.next_answer.Goals as goal

abbrev refusal : {A : Type 0} → Error → Result A Error
refusal e = Err e

-- what is seen of an answer
abbrev answer : {A B : Type 0} → (A → B) → Option A → Result (Option B) Error
answer see o = Ok (option_map see o)

pub returns-in_err-entry-clause-next : goal.returns-in_err-entry-clause-next
returns-in_err-entry-clause-next g c =
    let t = g.L.EntryList in
    let before = t.remaining c.loop-entry.list in
    let new = t.remaining c.take_entry.new.self in
    refusal_is_next _ c.from_residual.result _ _ _ c.from_residual.ensures.1
    (λ ne. c.loop-entry.invariant.0
    ∙ list_fault t.kind t.limit before new c.in_err-entry.field-0.0 (c.in_err-entry.ensures.next.0 ne)
    c.in_err-entry.ensures.against)
    (λ is. list_same t.kind t.limit before new (c.in_err-entry.ensures.next.1 is) c.in_err-entry.ensures.against
    ∙ sym c.loop-entry.invariant.0)

pub returns-in_err-answer-clause-next : goal.returns-in_err-answer-clause-next
returns-in_err-answer-clause-next g c =
    let t = g.L.EntryList in
    let mid = t.remaining c.take_entry.new.self in
    let new = t.remaining c.resolve.new.self in
    let entry = item_is_next t.see_entry c.in_ok-entry.field-0 c.in-Some.entry _ _ c.in-Some.is
    c.in_ok-entry.ensures.next in
    refusal_is_next _ c.from_residual-in_err-answer.result _ _ _ c.from_residual-in_err-answer.ensures.1
    (λ ne. c.loop-entry.invariant.0
    ∙ list_step t.kind t.limit (t.remaining c.loop-entry.list) mid new (t.see_entry c.in-Some.entry)
    (Err c.in_err-answer.field-0.0) entry c.in_ok-entry.ensures.against c.in_err-answer.ensures.value
    (same_entries t.kind t.limit mid new c.in_err-answer.ensures.how c.in_err-answer.ensures.rest)
    c.in_err-answer.ensures.setting c.in_err-answer.ensures.base)
    (λ is. absurd (c.in_err-answer.ensures.free (ap (λ (e : Error). refusal e) is)))

pub returns-in-Some-2-clause-next : goal.returns-in-Some-2-clause-next
returns-in-Some-2-clause-next g c =
    let t = g.L.EntryList in
    let mid = t.remaining c.take_entry.new.self in
    let new = t.remaining c.resolve.new.self in
    let entry = item_is_next t.see_entry c.in_ok-entry.field-0 c.in-Some.entry _ _ c.in-Some.is
    c.in_ok-entry.ensures.next in
    c.loop-entry.invariant.0
    ∙ list_step t.kind t.limit (t.remaining c.loop-entry.list) mid new (t.see_entry c.in-Some.entry)
    (Ok (Some (t.see c.in-Some-2.answer))) entry c.in_ok-entry.ensures.against
    (c.in_ok-answer.ensures.value ∙ ap (answer t.see) c.in-Some-2.is)
    (same_entries t.kind t.limit mid new c.in_ok-answer.ensures.how c.in_ok-answer.ensures.rest)
    c.in_ok-answer.ensures.setting c.in_ok-answer.ensures.base

pub loop-entry-preserved : goal.loop-entry-preserved
loop-entry-preserved g c =
    let t = g.L.EntryList in
    let before = t.remaining c.loop-entry.list in
    let mid = t.remaining c.take_entry.new.self in
    let new = t.remaining c.resolve.new.self in
    let entry = item_is_next t.see_entry c.in_ok-entry.field-0 c.in-Some.entry _ _ c.in-Some.is
    c.in_ok-entry.ensures.next in
    let same = same_entries t.kind t.limit mid new c.in_ok-answer.ensures.how c.in_ok-answer.ensures.rest in
    let none = c.in_ok-answer.ensures.value ∙ ap (answer t.see) c.in_default-2.is in (
      c.loop-entry.invariant.0
          ∙ list_step t.kind t.limit before mid new (t.see_entry c.in-Some.entry) (Ok None) entry
          c.in_ok-entry.ensures.against none same c.in_ok-answer.ensures.setting c.in_ok-answer.ensures.base,
      c.in_ok-answer.ensures.how ∙ c.in_ok-entry.ensures.how ∙ c.loop-entry.invariant.1,
      c.in_ok-answer.ensures.setting ∙ ap (λ (a : Resolution). a.setting) c.in_ok-entry.ensures.against
          ∙ c.loop-entry.invariant.2,
      list_passes t.kind t.limit (t.remaining c.args.list.now) before mid new (t.see_entry c.in-Some.entry)
          c.loop-entry.invariant.3 c.loop-entry.invariant.2 entry c.in_ok-entry.ensures.against none same
          c.in_ok-answer.ensures.base,
      list_reads t.kind t.limit t.see_entry (t.remaining c.args.list.now) before mid new c.in_ok-entry.field-0
          c.in-Some.entry c.loop-entry.invariant.4 c.loop-entry.invariant.1 c.in-Some.is c.in_ok-entry.ensures.rest
          c.in_ok-answer.ensures.rest,
    )

pub loop-entry-init : goal.loop-entry-init
loop-entry-init g c = (refl, refl, refl, passes_none _ _ _ _, reads_none _ _)

pub returns-in_err-entry-clause-progress : goal.returns-in_err-entry-clause-progress
returns-in_err-entry-clause-progress g c =
    let t = g.L.EntryList in
    let first = t.remaining c.args.list.now in
    let before = t.remaining c.loop-entry.list in
    let new = t.remaining c.take_entry.new.self in
    refusal_takes t.kind _ t.limit c.from_residual.result first new _ c.from_residual.ensures.1
    (λ ne. list_stops_at_fault t.kind t.limit first before new c.in_err-entry.field-0.0 c.loop-entry.invariant.3
    (c.in_err-entry.ensures.next.0 ne) c.in_err-entry.ensures.against)
    (λ is. skips_all t.kind t.limit first before new c.loop-entry.invariant.3
    (sym (c.in_err-entry.ensures.next.1 is)) c.in_err-entry.ensures.against)

pub returns-in_err-answer-clause-progress : goal.returns-in_err-answer-clause-progress
returns-in_err-answer-clause-progress g c =
    let t = g.L.EntryList in
    let first = t.remaining c.args.list.now in
    let mid = t.remaining c.take_entry.new.self in
    let new = t.remaining c.resolve.new.self in
    let entry = item_is_next t.see_entry c.in_ok-entry.field-0 c.in-Some.entry _ _ c.in-Some.is
    c.in_ok-entry.ensures.next in
    refusal_takes t.kind _ t.limit c.from_residual-in_err-answer.result first new _
    c.from_residual-in_err-answer.ensures.1
    (λ ne. list_stops t.kind t.limit first (t.remaining c.loop-entry.list) mid new (t.see_entry c.in-Some.entry)
    (Err c.in_err-answer.field-0.0) (Err c.in_err-answer.field-0.0) refl c.loop-entry.invariant.3
    c.loop-entry.invariant.2 entry c.in_ok-entry.ensures.against c.in_err-answer.ensures.value
    (same_entries t.kind t.limit mid new c.in_err-answer.ensures.how c.in_err-answer.ensures.rest)
    c.in_err-answer.ensures.base)
    (λ is. absurd (c.in_err-answer.ensures.free (ap (λ (e : Error). refusal e) is)))

pub returns-in-Some-2-clause-progress : goal.returns-in-Some-2-clause-progress
returns-in-Some-2-clause-progress g c =
    let t = g.L.EntryList in
    let first = t.remaining c.args.list.now in
    let mid = t.remaining c.take_entry.new.self in
    let new = t.remaining c.resolve.new.self in
    let entry = item_is_next t.see_entry c.in_ok-entry.field-0 c.in-Some.entry _ _ c.in-Some.is
    c.in_ok-entry.ensures.next in
    list_stops t.kind t.limit first (t.remaining c.loop-entry.list) mid new (t.see_entry c.in-Some.entry)
    (Ok (Some (t.see c.in-Some-2.answer))) (Ok (t.see c.in-Some-2.answer)) refl c.loop-entry.invariant.3
    c.loop-entry.invariant.2 entry c.in_ok-entry.ensures.against
    (c.in_ok-answer.ensures.value ∙ ap (answer t.see) c.in-Some-2.is)
    (same_entries t.kind t.limit mid new c.in_ok-answer.ensures.how c.in_ok-answer.ensures.rest)
    c.in_ok-answer.ensures.base

pub returns-in_err-entry-clause-rest : goal.returns-in_err-entry-clause-rest
returns-in_err-entry-clause-rest g c =
    let t = g.L.EntryList in
    let first = t.remaining c.args.list.now in
    let before = t.remaining c.loop-entry.list in
    let new = t.remaining c.take_entry.new.self in
    refusal_leaves (t.kind.entry t.limit first.how) c.from_residual.result first.rest new.rest _
    c.from_residual.ensures.1
    (λ ne. inr (list_ends_at_fault t.kind t.limit c.in_err-entry.field-0.0 first before new c.loop-entry.invariant.4
    c.loop-entry.invariant.1 (c.in_err-entry.ensures.rest.0 ne)))
    (λ is. subst (λ (v : View). ReadsSome (t.kind.entry t.limit first.how) first.rest v)
    (sym (c.in_err-entry.ensures.rest.1 is)) c.loop-entry.invariant.4)

pub returns-in_err-answer-clause-rest : goal.returns-in_err-answer-clause-rest
returns-in_err-answer-clause-rest g c =
    let t = g.L.EntryList in
    let first = t.remaining c.args.list.now in
    let before = t.remaining c.loop-entry.list in
    let mid = t.remaining c.take_entry.new.self in
    let new = t.remaining c.resolve.new.self in
    refusal_leaves (t.kind.entry t.limit first.how) c.from_residual-in_err-answer.result first.rest new.rest _
    c.from_residual-in_err-answer.ensures.1
    (λ ne. inl (list_reads t.kind t.limit t.see_entry first before mid new c.in_ok-entry.field-0 c.in-Some.entry
    c.loop-entry.invariant.4 c.loop-entry.invariant.1 c.in-Some.is c.in_ok-entry.ensures.rest
    c.in_err-answer.ensures.rest))
    (λ is. absurd (c.in_err-answer.ensures.free (ap (λ (e : Error). refusal e) is)))

pub returns-in-Some-2-clause-rest : goal.returns-in-Some-2-clause-rest
returns-in-Some-2-clause-rest g c =
    let t = g.L.EntryList in
    list_reads t.kind t.limit t.see_entry (t.remaining c.args.list.now) (t.remaining c.loop-entry.list)
    (t.remaining c.take_entry.new.self) (t.remaining c.resolve.new.self) c.in_ok-entry.field-0 c.in-Some.entry
    c.loop-entry.invariant.4 c.loop-entry.invariant.1 c.in-Some.is c.in_ok-entry.ensures.rest
    c.in_ok-answer.ensures.rest
