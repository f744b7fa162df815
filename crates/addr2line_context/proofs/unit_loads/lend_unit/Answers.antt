use Rattle.std.proofs.Common.{ap, ◌∙◌, map, subst, sym}
use Rattle.addr2line_lookups.specs.FirstAnswers.{output}
use Rattle.addr2line_lookups.specs.ResolvedUnits.{value_of_unit}
use Rattle.addr2line_lookups.specs.KeptUnits.{KeepsFunctionsAt}
use Rattle.addr2line_lookups.specs.UnitLookups.{FoundUnit, unit_at_number}
use Rattle.addr2line_context.specs.FrameLoads.{DecidesUnit}
use Rattle.addr2line_context.specs.KeptContexts.{ResolvedContext}
use Rattle.addr2line_context.proofs.unit_loads.lend_unit.Goals as goal

pub returns-in-Number : goal.returns-in-Number
returns-in-Number g c = λ meaning decides.
    let us = c.args.context.now.units in
    let number = c.in-Number.number in
    let found : FoundUnit (map value_of_unit us) us meaning number =
    subst (DecidesUnit us meaning) c.in-Number.is decides in
    let kept =
    subst (λ (x : ResolvedContext). KeepsFunctionsAt x.units number) (sym c.context.view_is) found.keeps_functions in
    found.is_found
    ∙ ap output (sym (c.functions_unit_at.ensures kept
    ∙ ap (λ (x : ResolvedContext). unit_at_number (map value_of_unit x.units) number) c.context.view_is))

pub returns-in-NoUnit : goal.returns-in-NoUnit
returns-in-NoUnit g c = λ meaning decides.
    subst (DecidesUnit c.args.context.now.units meaning) c.in-NoUnit.is decides
