use Rattle.std.proofs.Common.{◌<◌, ◌∙◌, sym, length, subst, arith}
use Rattle.addr2line_lookups.specs.UnitParses.{check_functions_of, ChecksOrNoMemory}
use Rattle.addr2line_lookups.proofs.AskedLines.{no_lines_set}
use Rattle.addr2line_lookups.proofs.CallsOfUnits.{leaves_calls}
use Rattle.addr2line_lookups.proofs.CallsLeft.{leaves_both_of}
use Rattle.addr2line_lookups.proofs.UnitTurns.{turn_there, check_there, functions_there, no_functions_past}
use Rattle.addr2line_lookups.proofs.UnitProbes.{looks_set, looks_both_of}
use Rattle.addr2line_lookups.proofs.parsing_functions.parse_functions_at.Goals as goal

pub returns-then-number-len-clause-kept : goal.returns-then-number-len-clause-kept
returns-then-number-len-clause-kept g c = λ answered.
    no_functions_past c.args.units.now.items c.args.number (omega arith)

pub returns : goal.returns
returns g c =
    let us = c.args.units.now.items in
    let n = c.args.number in
    let unit = c.index_mut-unit.result.now in
    let turned = c.skip_load.new.unit in
    let new = c.check_functions_of.new.unit in
    let below : n < length us = omega arith in
    let is = c.index_mut-unit.ensures.value in
    let value = c.check_functions_of.ensures.value ∙ c.skip_load.ensures.value in
    record {
      values = turn_there us n unit new below is value;
      found =
          check_there us n unit new below is check_functions_of c.check_functions_of.result
          (subst (λ v. ChecksOrNoMemory c.check_functions_of.result (check_functions_of v))
          (sym c.check_functions_of.ensures.value) c.check_functions_of.ensures.found);
      kept = λ answered. functions_there us n unit new below is (c.check_functions_of.ensures.kept answered);
      calls =
          leaves_calls us n unit below is new
          (leaves_both_of unit turned new c.skip_load.ensures.calls c.check_functions_of.ensures.calls);
      cost =
          looks_set us n unit below is new 0
          (looks_both_of 0 0 unit turned new c.skip_load.ensures.cost c.check_functions_of.ensures.cost);
      lines = no_lines_set us n unit is new (c.check_functions_of.ensures.lines ∙ c.skip_load.ensures.lines);
    }
