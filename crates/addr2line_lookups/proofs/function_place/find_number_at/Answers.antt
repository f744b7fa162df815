use Rattle.std.proofs.Common.{ℕ, Option, Result, sym, ap, subst}
use Rattle.addr2line_unit.specs.Error.{Error}
use Rattle.addr2line_unit.specs.Calls.{ReturnsOrNoMemory}
use Rattle.addr2line_lookups.specs.KeptUnits.{KeepsFunctionList}
use Rattle.addr2line_lookups.specs.FunctionPlaces.{number_of_any}
use Rattle.addr2line_lookups.proofs.UnitChanges.{changes_one}
use Rattle.addr2line_lookups.proofs.AskedLines.{no_lines_set}
use Rattle.addr2line_lookups.proofs.UnitRows.{same_values}
use Rattle.addr2line_lookups.proofs.CallsOfUnits.{value_here, is_decided, leaves_calls, functions_there, if_set}
use Rattle.addr2line_lookups.proofs.LookupProbes.{looks_for_number}
use Rattle.addr2line_lookups.proofs.function_place.find_number_at.Goals as goal

pub find_number-requires : goal.find_number-requires
find_number-requires g c =
    is_decided c.args.units.now.items c.args.number c.index_mut-unit.result.now c.requires.unit
    c.index_mut-unit.ensures.value c.requires.decided

pub returns : goal.returns
returns g c =
    let us = c.args.units.now.items in
    let n = c.args.number in
    let a = c.args.probe in
    let u = c.index_mut-unit.result.now in
    let is = c.index_mut-unit.ensures.value in
    let new = c.find_number.new.unit in
    let below = c.requires.unit in
    let P : Result (Option ℕ) Error → Type 0 = λ m. ReturnsOrNoMemory c.find_number.result m in
    record {
      values = same_values us n u new is c.find_number.ensures.value;
      calls = leaves_calls us n u below is new c.find_number.ensures.calls;
      number = subst P (ap (number_of_any a) (sym (value_here us n u below is))) c.find_number.ensures.number;
      cost = looks_for_number us n u below is new c.find_number.ensures.cost;
      lines = no_lines_set us n u is new c.find_number.ensures.lines;
      functions = changes_one KeepsFunctionList us n new;
      below = functions_there us n u below is new c.find_number.result c.find_number.ensures.below;
      kept = λ answered. if_set us n u below is new KeepsFunctionList (c.find_number.ensures.kept answered);
    }
