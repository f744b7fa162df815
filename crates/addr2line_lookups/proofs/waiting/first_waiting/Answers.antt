use Rattle.std.proofs.Common.{map, drop, ◌∙◌}
use Rattle.addr2line_unit.specs.UnitRange.{UnitRange}
use Rattle.addr2line_unit.specs.NumberedRanges.{covering_ranges}
use Rattle.addr2line_unit.specs.ResolvedUnits.{value_of_unit}
use Rattle.addr2line_lookups.specs.Preloads.{loads_at}
use Rattle.addr2line_lookups.proofs.FirstLoads.{number_if_any, further_if_none, no_number}
use Rattle.addr2line_lookups.proofs.waiting.first_waiting.Goals as goal

pub returns-then-is_some : goal.returns-then-is_some
returns-then-is_some g c =
    let vs = map value_of_unit c.args.units.now in
    let a = c.args.probe in
    let rs = c.args.ranges.now in
    let old = covering_ranges a (drop c.loop-unit.place rs) in
    let rest = covering_ranges a (drop c.in-Some.next rs) in
    let r : UnitRange = record { range = c.in-Some.ensures.0; unit = c.in-Some.unit } in
    number_if_any (λ l. l.now) vs r old rest c.in-Some.ensures.1 c.load_at.result c.if-is_some.ensures c.load_at.ensures
    (loads_at vs (covering_ranges a rs)) c.loop-unit.invariant

pub loop-unit-preserved : goal.loop-unit-preserved
loop-unit-preserved g c =
    let vs = map value_of_unit c.args.units.now in
    let a = c.args.probe in
    let rs = c.args.ranges.now in
    let old = covering_ranges a (drop c.loop-unit.place rs) in
    let rest = covering_ranges a (drop c.in-Some.next rs) in
    let r : UnitRange = record { range = c.in-Some.ensures.0; unit = c.in-Some.unit } in
    c.loop-unit.invariant
    ∙ further_if_none (λ l. l.now) vs r old rest c.in-Some.ensures.1 c.load_at.result c.if-is_some.ensures
    c.load_at.ensures

pub returns : goal.returns
returns g c =
    let vs = map value_of_unit c.args.units.now in
    let a = c.args.probe in
    let rs = c.args.ranges.now in
    no_number vs (covering_ranges a (drop c.loop-unit.place rs)) c.in_default.ensures
    (loads_at vs (covering_ranges a rs)) c.loop-unit.invariant
