use Rattle.std.proofs.Common.{[], ◌∷◌, rules}
use Rattle.gimli_dwarf.proofs.SectionCalls.{IfErr-from_error, refuses_one, refuses_among}
use Rattle.gimli_dwarf.proofs.loading.load_four.Goals as goal

pub returns-in_err-section-clause-refusal : goal.returns-in_err-section-clause-refusal
returns-in_err-section-clause-refusal g c =
    IfErr-from_error _ _ _ c.from_residual.ensures.1
    (refuses_among (goal.F-step g) [] _
    (c.args.second ∷ c.args.third ∷ c.args.fourth ∷ []) _ _ _ (search rules)
    (refuses_one (goal.F-step g) _ _ c.args.first _ _ c.section.ensures c.in_err-section.was))

pub returns-in_err-section-2-clause-refusal : goal.returns-in_err-section-2-clause-refusal
returns-in_err-section-2-clause-refusal g c =
    IfErr-from_error _ _ _ c.from_residual-in_err-section-2.ensures.1
    (refuses_among (goal.F-step g) ((c.args.first, c.in_ok-section.field-0) ∷ []) _
    (c.args.third ∷ c.args.fourth ∷ []) _ _ _ (search rules)
    (refuses_one (goal.F-step g) _ _ c.args.second _ _ c.section-2.ensures c.in_err-section-2.was))

pub returns-in_err-section-3-clause-refusal : goal.returns-in_err-section-3-clause-refusal
returns-in_err-section-3-clause-refusal g c =
    IfErr-from_error _ _ _ c.from_residual-in_err-section-3.ensures.1
    (refuses_among (goal.F-step g)
    ((c.args.first, c.in_ok-section.field-0) ∷ (c.args.second, c.in_ok-section-2.field-0) ∷ []) _
    (c.args.fourth ∷ []) _ _ _ (search rules)
    (refuses_one (goal.F-step g) _ _ c.args.third _ _ c.section-3.ensures c.in_err-section-3.was))

pub returns-in_err-section-4-clause-refusal : goal.returns-in_err-section-4-clause-refusal
returns-in_err-section-4-clause-refusal g c =
    IfErr-from_error _ _ _ c.from_residual-in_err-section-4.ensures.1
    (refuses_among (goal.F-step g)
    ((c.args.first, c.in_ok-section.field-0) ∷ (c.args.second, c.in_ok-section-2.field-0)
    ∷ (c.args.third, c.in_ok-section-3.field-0) ∷ []) _
    [] _ _ _ (search rules)
    (refuses_one (goal.F-step g) _ _ c.args.fourth _ _ c.section-4.ensures c.in_err-section-4.was))
