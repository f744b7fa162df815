use Rattle.std.proofs.Common.{map}
use Rattle.addr2line_unit.specs.ResolvedUnits.{plain_unit}
use Rattle.addr2line_lookups.proofs.RangeSteps.{next_of_rows, none_after_rows}
use Rattle.addr2line_lookups.proofs.range_walk.next_in.Goals as goal

pub returns-in-Some-clause-change : goal.returns-in-Some-clause-change
returns-in-Some-clause-change g c = c.in-Some.ensures.change

pub returns-in-Some-clause-stretch : goal.returns-in-Some-clause-stretch
returns-in-Some-clause-stretch g c =
    let a = c.args in
    next_of_rows a.low a.high a.rows.range c.max-low.result c.min-high.result c.max-low.ensures c.min-high.ensures
    a.rows.cursor c.in-Some.stretch c.in-Some.cursor (map plain_unit a.units.now.items) c.unit_stretch.result
    c.unit_stretch.ensures c.in-Some.ensures.row

pub returns-in-None-clause-change : goal.returns-in-None-clause-change
returns-in-None-clause-change g c = c.in-None.ensures.change

pub returns-in-None-clause-stretch : goal.returns-in-None-clause-stretch
returns-in-None-clause-stretch g c =
    let a = c.args in
    none_after_rows a.low a.high a.rows.range c.max-low.result c.min-high.result c.max-low.ensures c.min-high.ensures
    a.rows.cursor (map plain_unit a.units.now.items) c.in-None.ensures.row
