use Rattle.std.proofs.Common.{map}
use Rattle.addr2line_unit.specs.ResolvedUnits.{plain_unit}
use Rattle.addr2line_lookups.proofs.AskedStretches.{begins_with_rows, begins_without_rows}
use Rattle.addr2line_lookups.proofs.range_walk.rows_in.Goals as goal

pub returns-in-Some-clause-change : goal.returns-in-Some-clause-change
returns-in-Some-clause-change g c = c.in-Some.ensures.change

pub returns-in-Some-clause-rows : goal.returns-in-Some-clause-rows
returns-in-Some-clause-rows g c = λ high rest.
    begins_with_rows c.args.low high c.args.range rest c.max.result c.max.ensures c.in-Some.cursor
    (map plain_unit c.args.units.now.items) c.in-Some.ensures.begins

pub returns-in-None-clause-change : goal.returns-in-None-clause-change
returns-in-None-clause-change g c = c.in-None.ensures.change

pub returns-in-None-clause-rows : goal.returns-in-None-clause-rows
returns-in-None-clause-rows g c = λ high rest.
    begins_without_rows c.args.low high c.args.range rest c.max.result c.max.ensures
    (map plain_unit c.args.units.now.items) c.requires.lines c.in-None.ensures.begins
