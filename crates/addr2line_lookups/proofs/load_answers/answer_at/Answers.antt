use Rattle.std.proofs.Common.{◌<◌, length, arith}
use Rattle.addr2line_lookups.proofs.AskedLines.{no_lines_set}
use Rattle.addr2line_lookups.proofs.CallsOfUnits.{leaves_calls, is_decided}
use Rattle.addr2line_lookups.proofs.AnsweredLoads.{answer_there, answer_is}
use Rattle.addr2line_lookups.proofs.KeptFunctionLists.{no_functions_set}
use Rattle.addr2line_lookups.proofs.UnitProbes.{looks_set}
use Rattle.addr2line_lookups.proofs.load_answers.answer_at.Goals as goal

pub returns : goal.returns
returns g c =
    let us = c.args.units.now.items in
    let below : c.args.number < length us = omega arith in
    let n = c.args.number in
    let unit = c.index_mut-unit.result.now in
    let new = c.answer_unit.new.unit in
    record {
      answer =
          answer_there us n _ unit new c.answer_unit.result below c.index_mut-unit.ensures.value
          c.answer_unit.ensures.answer;
      decided = λ none.
          answer_is us n _ unit new c.answer_unit.result below c.index_mut-unit.ensures.value
          (c.answer_unit.ensures.decided (is_decided us n unit below c.index_mut-unit.ensures.value none));
      calls = leaves_calls us n unit below c.index_mut-unit.ensures.value new c.answer_unit.ensures.calls;
      cost = looks_set us n unit below c.index_mut-unit.ensures.value new 0 c.answer_unit.ensures.cost;
      lines = no_lines_set us n unit c.index_mut-unit.ensures.value new c.answer_unit.ensures.lines;
      functions = no_functions_set us n unit c.index_mut-unit.ensures.value new c.answer_unit.ensures.functions;
    }
