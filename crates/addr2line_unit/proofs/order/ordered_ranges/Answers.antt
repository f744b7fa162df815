use Rattle.std.proofs.Common.{◌≡◌, ◌∷◌, [], ◌++◌, sym, ap, ◌∙◌, length, map}
use Rattle.std.proofs.lemmas.Result.{IfOk-weaker}
use Rattle.addr2line_functions.specs.NumberedRanges.{ranges_of_units}
use Rattle.addr2line_unit.specs.ContextUnits.{ordered_ranges}
use Rattle.addr2line_unit.specs.ResolvedUnits.{plain_unit}
use Rattle.addr2line_unit.proofs.UnitOrder.{ranges_to, at_most, ranges_to-more, ranges_to-length, ranges_to-all}
use Rattle.addr2line_unit.proofs.order.ordered_ranges.Goals as goal

pub loop-number-preserved : goal.loop-number-preserved
loop-number-preserved g c =
    let us = c.args.units.now in
    let n = c.loop-number.number in
    let within = at_most n (length us) c.loop-number-test.true in
    c.in_ok-add_unit.ensures.ok (ranges_to n us) c.loop-number.invariant (ranges_to-length n us within)
    ∙ ap (λ rs. ranges_of_units (ranges_to n us ++ rs ∷ [])) c.ranges-in-loop-number.ensures
    ∙ ap ranges_of_units
    (sym (ranges_to-more n us c.index-units-number.result c.loop-number-test.true c.index-units-number.is))

pub returns-clause-ok : goal.returns-clause-ok
returns-clause-ok g c =
    let us = c.args.units.now in
    IfOk-weaker c.finish.result _ (λ rs. rs ≡ ordered_ranges (map plain_unit us))
    (λ rs made. made (ranges_to c.loop-number.number us) c.loop-number.invariant
    ∙ ranges_to-all c.loop-number.number us c.loop-number-test.false) c.finish.ensures.ok
