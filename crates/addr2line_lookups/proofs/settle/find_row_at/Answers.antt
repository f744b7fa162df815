use Rattle.std.proofs.Common.{◌<◌, length, subst, sym, ap, Result, Option, arith}
use Rattle.addr2line_unit.specs.Error.{Error}
use Rattle.addr2line_unit.specs.Calls.{ReturnsOrNoMemory}
use Rattle.addr2line_unit.specs.Lines.{LineRow}
use Rattle.addr2line_unit.specs.ResolvedUnits.{ResolvedUnit, KeepsLines, value_of_unit}
use Rattle.addr2line_lookups.specs.KeptCalls.{kept_calls_of}
use Rattle.addr2line_lookups.proofs.AskedLines.{reads_set}
use Rattle.addr2line_lookups.proofs.CallsOfUnits.{if_here, leaves_calls, same_calls, same_chain}
use Rattle.addr2line_lookups.proofs.CallsLeft.{leaves_value}
use Rattle.addr2line_lookups.proofs.KeptFunctionLists.{functions_same, no_functions_set}
use Rattle.addr2line_lookups.proofs.KeptLines.{keeps_set}
use Rattle.addr2line_lookups.proofs.UnitRows.{row_here, same_values}
use Rattle.addr2line_lookups.proofs.LookupProbes.{looks_for_row}
use Rattle.addr2line_lookups.proofs.settle.find_row_at.Goals as goal

pub returns : goal.returns
returns g c =
    let us = c.args.units.now.items in
    let n = c.args.number in
    let unit = c.index_mut-unit.result.now in
    let new = c.find_row.new.self in
    let below : n < length us = omega arith in
    let P : Result (Option LineRow) Error → Type 0 = λ x. ReturnsOrNoMemory c.find_row.result x in
    record {
      values = same_values us n unit new c.index_mut-unit.ensures.value
          (ap value_of_unit c.find_row.ensures.unit);
      found = subst P (sym (row_here us n c.args.probe unit below c.index_mut-unit.ensures.value))
          c.find_row.ensures.row;
      kept = λ answered. keeps_set us n new (c.find_row.ensures.kept answered);
      calls =
          leaves_calls us n unit below c.index_mut-unit.ensures.value new
          (leaves_value unit new (ap value_of_unit c.find_row.ensures.unit)
          (ap (λ (u : ResolvedUnit). u.calls) c.find_row.ensures.unit));
      same = same_calls us n unit below c.index_mut-unit.ensures.value new (ap kept_calls_of c.find_row.ensures.unit);
      chain =
          same_chain us n unit below c.index_mut-unit.ensures.value new
          (ap (λ (u : ResolvedUnit). u.chain) c.find_row.ensures.unit);
      cost =
          looks_for_row us n unit below c.index_mut-unit.ensures.value new c.args.probe c.find_row.ensures.cost
          (ap (λ (u : ResolvedUnit). u.runs) c.find_row.ensures.unit) c.find_row.ensures.more
          (functions_same unit new (ap (λ (u : ResolvedUnit). u.keeps_functions) c.find_row.ensures.unit)
          (ap (λ (u : ResolvedUnit). u.calls) c.find_row.ensures.unit));
      reads = reads_set us n new;
      functions =
          no_functions_set us n unit c.index_mut-unit.ensures.value new
          (ap (λ (u : ResolvedUnit). u.keeps_functions) c.find_row.ensures.unit);
      free = λ kept. c.find_row.ensures.free (if_here us n unit below c.index_mut-unit.ensures.value KeepsLines kept);
    }
