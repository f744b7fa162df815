use Rattle.std.proofs.Common.{◌<◌, length, subst, sym, ap, arith}
use Rattle.addr2line_unit.specs.ResolvedUnits.{ResolvedUnit, KeepsLines}
use Rattle.addr2line_lookups.specs.RangeWalks.{GoesOnInUnit}
use Rattle.addr2line_lookups.proofs.AskedLines.{no_lines_set}
use Rattle.addr2line_lookups.proofs.CallsOfUnits.{if_here}
use Rattle.addr2line_lookups.proofs.WalkLooks.{plain_here, step_set}
use Rattle.addr2line_lookups.proofs.range_walk.next_at.Goals as goal

pub returns : goal.returns
returns g c =
    let us = c.args.units.now.items in
    let n = c.args.number in
    let u = c.index_mut-unit.result.now in
    let is = c.index_mut-unit.ensures.value in
    let new = c.next_between.new.self in
    let looked = c.next_between.ensures.unit in
    let below : n < length us = omega arith in
    record {
      change = step_set us n u below is new looked c.args.cursor c.next_between.result c.next_between.ensures.cost;
      lines = no_lines_set us n u is new (ap (λ (x : ResolvedUnit). x.keeps_lines) looked);
      row =
          subst (λ o. GoesOnInUnit c.args.low c.args.high c.args.cursor o c.next_between.result)
          (sym (plain_here us n u below is))
          (c.next_between.ensures.row (if_here us n u below is KeepsLines c.requires));
    }
