use Rattle.std.proofs.Common.{◌<◌, length, subst, sym, Result, arith}
use Rattle.addr2line_unit.specs.Error.{Error}
use Rattle.addr2line_unit.specs.Calls.{ReturnsOrNoMemory}
use Rattle.addr2line_unit.specs.ResolvedUnits.{KeepsLines}
use Rattle.addr2line_lookups.proofs.AskedLines.{reads_set}
use Rattle.addr2line_lookups.proofs.CallsOfUnits.{if_here}
use Rattle.addr2line_lookups.proofs.KeptLines.{keeps_set}
use Rattle.addr2line_lookups.proofs.ReadLines.{lines_set}
use Rattle.addr2line_lookups.proofs.UnitRows.{check_here}
use Rattle.addr2line_lookups.proofs.parsing.check_at.Goals as goal

pub returns : goal.returns
returns g c =
    let us = c.args.units.now.items in
    let n = c.args.number in
    let unit = c.index_mut-unit.result.now in
    let is = c.index_mut-unit.ensures.value in
    let new = c.check_lines.new.self in
    let checked = c.check_lines.ensures in
    let below : n < length us = omega arith in
    let P : Result (Unit {0}) Error → Type 0 = λ x. ReturnsOrNoMemory c.check_lines.result x in
    record {
      change = lines_set us n unit new below is checked.unit checked.more;
      found = subst P (sym (check_here us n unit below is)) checked.found;
      kept = λ answered. keeps_set us n new (checked.kept answered);
      reads = reads_set us n new;
      free = λ kept. checked.free (if_here us n unit below is KeepsLines kept);
    }
