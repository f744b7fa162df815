use Rattle.std.proofs.Common.{◌≡◌, ℕ, map, option_map, None, sym, subst}
use Rattle.addr2line_lookups.specs.Lookups.{answer_load}
use Rattle.addr2line_lookups.specs.ResolvedUnits.{value_of_unit}
use Rattle.addr2line_lookups.specs.AnsweredUnits.{answers_of}
use Rattle.addr2line_lookups.specs.LoadAnswers.{AnswersOrNoMemory}
use Rattle.addr2line_lookups.specs.Preloads.{load_at}
use Rattle.addr2line_context.specs.KeptContexts.{ResolvedContext}
use Rattle.addr2line_lookups.proofs.AnsweredLoads.{file_left, plain_left}
use Rattle.addr2line_lookups.proofs.PassedUnits.{decided_same}
use Rattle.addr2line_context.proofs.ContextParts.{value_is, looks_since, lines_since, functions_since}
use Rattle.addr2line_context.proofs.ContextLoads.{answer_of_context, same_plain_context, decided_in_context}
use Rattle.addr2line_context.proofs.KeptUnits.{holds_after}
use Rattle.addr2line_context.proofs.context.Context.answer_load.Goals as goal

pub invariant_of-self : goal.invariant_of-self
invariant_of-self g c =
    let us = c.self.inside.units in
    let vs = c.answer_at.new.self in
    let h = c.answer_at.ensures.answer in
    holds_after _ _ us vs c.self.invariant (plain_left us vs c.answer_at.result _ _ h)
    (file_left us vs c.answer_at.result _ _ h c.self.inside.sections.value.file c.self.invariant.are_of_file)
    c.answer_at.ensures.calls c.answer_at.ensures.cost.functions
    (decided_same _ _ _ _ c.answer_at.result h)

pub returns-clause-answers : goal.returns-clause-answers
returns-clause-answers g c =
    let old = c.args.self.now.value in
    subst (λ n. AnswersOrNoMemory c.answer_at.result old.answers (answers_of (map value_of_unit c.answer_at.new.self))
    (answer_load old.plain old.answers n (option_map (λ f. f.value.file) c.args.file)))
    c.number.ensures
    (answer_of_context _ _ _ c.self.invariant.are_of_file c.answer_at.new.self c.answer_at.result _ _
    c.answer_at.ensures.answer old (value_is _ _ _ _ c.self.view_is))

pub returns-clause-plain : goal.returns-clause-plain
returns-clause-plain g c =
    same_plain_context _ _ _ c.self.invariant.are_of_file c.answer_at.new.self c.answer_at.result _ _
    c.answer_at.ensures.answer c.args.self.now.value (value_is _ _ _ _ c.self.view_is)

pub returns-clause-cost : goal.returns-clause-cost
returns-clause-cost g c = looks_since _ _ _ _ c.self.view_is 0 c.answer_at.new.self c.answer_at.ensures.cost

pub returns-clause-lines : goal.returns-clause-lines
returns-clause-lines g c = lines_since _ _ _ _ c.self.view_is c.answer_at.new.self c.answer_at.ensures.lines

pub returns-clause-functions : goal.returns-clause-functions
returns-clause-functions g c =
    functions_since _ _ _ _ c.self.view_is c.answer_at.new.self c.answer_at.ensures.functions

pub returns-clause-decided : goal.returns-clause-decided
returns-clause-decided g c =
    let old = c.args.self.now in
    let new = c.answer_at.new.self in
    let r = c.answer_at.result in
    let P : ℕ → Type 0 =
    λ n. load_at (map value_of_unit old.units) n ≡ None
    → answer_load old.value.plain old.value.answers n (option_map (λ f. f.value.file) c.args.file)
    ≡ (r, answers_of (map value_of_unit new)) in
    subst P c.number.ensures (λ none.
    decided_in_context _ _ _ c.self.invariant.are_of_file new r _ _ c.answer_at.ensures.answer old.value
    (value_is _ _ _ _ c.self.view_is)
    (c.answer_at.ensures.decided
    (subst (λ (x : ResolvedContext). load_at (map value_of_unit x.units) c.number.result ≡ None) (sym c.self.view_is)
    none)))
