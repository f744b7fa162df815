use Rattle.std.proofs.Common.{◌<◌, length, subst, sym, ap, arith}
use Rattle.addr2line_unit.specs.ResolvedUnits.{ResolvedUnit, KeepsLines}
use Rattle.addr2line_lookups.specs.RangeWalks.{BeginsInUnit}
use Rattle.addr2line_lookups.proofs.AskedLines.{no_lines_set}
use Rattle.addr2line_lookups.proofs.CallsOfUnits.{if_here}
use Rattle.addr2line_lookups.proofs.WalkLooks.{plain_here, cursor_set}
use Rattle.addr2line_lookups.proofs.range_walk.cursor_at.Goals as goal

pub returns : goal.returns
returns g c =
    let us = c.args.units.now.items in
    let n = c.args.number in
    let u = c.index_mut-unit.result.now in
    let is = c.index_mut-unit.ensures.value in
    let new = c.cursor_from.new.self in
    let looked = c.cursor_from.ensures.unit in
    let below : n < length us = omega arith in
    record {
      change = cursor_set us n u below is new looked c.cursor_from.result c.cursor_from.ensures.cost;
      lines = no_lines_set us n u is new (ap (λ (x : ResolvedUnit). x.keeps_lines) looked);
      begins =
          subst (λ o. BeginsInUnit c.args.low o c.cursor_from.result) (sym (plain_here us n u below is))
          (c.cursor_from.ensures.rows (if_here us n u below is KeepsLines c.requires));
    }
