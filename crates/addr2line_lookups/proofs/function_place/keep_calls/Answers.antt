use Rattle.std.proofs.Common.{◌≡◌, ◌<◌, get_or, List, length, set, is_some, map, true, refl, sym, ap, ◌∙◌, subst}
use Rattle.std.proofs.lemmas.Result.{on_ok_weaker}
use Rattle.addr2line_unit.specs.Calls.{ReturnsAsOrNoMemory}
use Rattle.addr2line_unit.specs.CountedFunctions.{CountedCalls}
use Rattle.addr2line_unit.specs.KeptFunctions.{kept_at, plain_calls}
use Rattle.addr2line_unit.specs.ResolvedUnits.{ResolvedUnit, value_of_unit}
use Rattle.addr2line_lookups.specs.KeptUnits.{KeepsFunctionList, ReadsNoLines, ReadsAskedFunctions}
use Rattle.addr2line_lookups.specs.KeptCalls.{known_among, calls_among, HoldCalls}
use Rattle.addr2line_lookups.specs.FunctionPlaces.{HasFunction, count_at}
use Rattle.addr2line_lookups.specs.LookupCosts.{AtMostLooks}
use Rattle.addr2line_lookups.proofs.UnitChanges.{changes_one, changes_none}
use Rattle.addr2line_lookups.proofs.AskedLines.{no_lines_set}
use Rattle.addr2line_lookups.proofs.UnitRows.{same_values}
use Rattle.addr2line_lookups.proofs.CallsOfUnits.{if_here, if_there, holds_here, holds_set, kept_set, same_count, holds_kept, value_kept, length_kept, counts_kept, runs_kept, keeps_kept, kept_there, not_kept, counter_here}
use Rattle.addr2line_lookups.proofs.KeptFunctionLists.{functions_called}
use Rattle.addr2line_lookups.proofs.UnitProbes.{looks_none, looks_set, looks_nowhere}
use Rattle.addr2line_lookups.proofs.function_place.keep_calls.Goals as goal

pub returns-then-is_some : goal.returns-then-is_some
returns-then-is_some g c =
    let us = c.args.units.now.items in
    let k = c.args.function in
    record {
      values = refl;
      calls = c.requires.calls;
      count = refl;
      kept =
          if_there us c.args.number c.index-unit.result.now c.requires.unit c.index-unit.ensures
          (λ w. is_some (kept_at w.calls k) ≡ true)
          (kept_there _ c.kept_calls.result _ c.is_some.result c.kept_calls.ensures c.is_some.ensures
          c.if-is_some.true);
      same = λ kept. refl;
      cost = looks_none 0 us;
      lines = λ m before. before;
      functions = changes_none KeepsFunctionList (λ m. m ≡ c.args.number) us;
      refusal = tt;
    }

pub read_calls_at-read-requires : goal.read_calls_at-read-requires
read_calls_at-read-requires g c = record {
  unit = c.requires.unit;
  function = c.requires.function;
  order = c.requires.calls.order;
}

pub keep_calls-requires : goal.keep_calls-requires
keep_calls-requires g c =
    let us = c.args.units.now.items in
    let n = c.args.number in
    let u = c.index_mut-unit.result.now in
    let same = c.read_calls_at-read.ensures.units in
    let is : u ≡ get_or us n u = subst (λ (l : List ResolvedUnit). u ≡ get_or l n u) same c.index_mut-unit.ensures.value
    in
    record {
      number = if_here us n u c.requires.unit is (HasFunction c.args.function) c.requires.function;
      counter = counter_here us n u c.requires.unit is c.read_calls_at-read.result c.read_calls_at-read.ensures.counter;
    }

pub returns : goal.returns
returns g c =
    let us = c.args.units.now.items in
    let s = c.args.supplement_units.now in
    let known = known_among us s in
    let n = c.args.number in
    let k = c.args.function in
    let vs = c.read_calls_at-read.new.units.items in
    let same : vs ≡ us = c.read_calls_at-read.ensures.units in
    let u = c.index_mut-unit.result.now in
    let is_now = c.index_mut-unit.ensures.value in
    let is : u ≡ get_or us n u = subst (λ (l : List ResolvedUnit). u ≡ get_or l n u) same is_now in
    let new = c.keep_calls.new.self in
    let read = c.read_calls_at-read.result in
    let r = c.keep_calls.result in
    let kept = c.keep_calls.ensures in
    let below = c.requires.unit in
    let now : n < length vs = subst (λ (l : List ResolvedUnit). n < length l) (sym same) below in
    let counts = counts_kept known u new k read r kept.ok kept.err in
    let changed : List ResolvedUnit = set vs n new in
    let calls =
    if_here us n u below is
    (λ w. ReturnsAsOrNoMemory (λ (x : CountedCalls). x.function) read (calls_among known w.value k))
    c.read_calls_at-read.ensures.calls in
    record {
      values =
          same_values vs n u new is_now (value_kept known u new k read r kept.ok kept.err)
          ∙ ap (map value_of_unit) same;
      calls =
          holds_set vs n u now is_now new known
          (holds_kept known u new k read r kept.ok kept.answer kept.err calls
          (holds_here us n u below is known c.requires.calls))
          (subst (λ (l : List ResolvedUnit). HoldCalls known l) (sym same) c.requires.calls);
      count =
          same_count vs n u now is_now new (length_kept known u new k read r kept.ok kept.err)
          ∙ ap (λ (l : List ResolvedUnit). count_at l n) same;
      kept =
          on_ok_weaker r (kept_set vs n u now is_now new k)
          (keeps_kept known u new k read r kept.ok
          (if_here us n u below is (HasFunction k) c.requires.function));
      same = λ before.
          absurd (not_kept _ c.kept_calls.result _ c.is_some.result c.kept_calls.ensures c.is_some.ensures
          c.if-is_some.false
          (if_here us n c.index-unit.result.now below c.index-unit.ensures (λ w. is_some (kept_at w.calls k) ≡ true)
          before));
      cost =
          subst (λ (l : List ResolvedUnit). AtMostLooks 0 l changed) same
          (looks_set vs n u now is_now new 0
          (looks_nowhere u new counts.0 (runs_kept known u new k read r kept.ok kept.err) counts.1
          (functions_called u new k (plain_calls read) r kept.ok kept.err)));
      lines =
          subst (λ (l : List ResolvedUnit). ReadsNoLines l changed) same (no_lines_set vs n u is_now new counts.1);
      functions =
          subst (λ (l : List ResolvedUnit). ReadsAskedFunctions (λ m. m ≡ n) l changed) same
          (changes_one KeepsFunctionList vs n new);
      refusal = kept.refusal;
    }
