use Rattle.std.proofs.Common.{length, ap, ◌∙◌, arith}
use Rattle.addr2line_lookups.proofs.CallsOfUnits.{same_again}
use Rattle.addr2line_lookups.proofs.function_place.make_all_whole.Goals as goal

pub returns-in_err-make_whole-clause-units : goal.returns-in_err-make_whole-clause-units
returns-in_err-make_whole-clause-units g c =
    same_again c.loop-number.units.items c.loop-number.number c.index_mut-unit.result.now c.index_mut-unit.ensures.value
    c.make_whole.new.self c.in_err-make_whole.ensures.unit
    ∙ c.loop-number.invariant

pub loop-number-preserved : goal.loop-number-preserved
loop-number-preserved g c =
    same_again c.loop-number.units.items c.loop-number.number c.index_mut-unit.result.now c.index_mut-unit.ensures.value
    c.make_whole.new.self c.in_ok-make_whole.ensures.unit
    ∙ c.loop-number.invariant

pub loop-number-smaller : goal.loop-number-smaller
loop-number-smaller g c = omega (arith, ap length c.loop-number.invariant)
