use Rattle.std.proofs.Common.{◌≡◌, ◌<◌, ℕ, List, length, set, map, slice_get, Option, Some, Result, is_some, true, refl, sym, ap, ◌∙◌, subst, arith}
use Rattle.std.proofs.lemmas.Result.{err_from_is_err_and}
use Rattle.addr2line_unit.specs.Error.{Error}
use Rattle.addr2line_unit.specs.InlinedCalls.{FunctionCalls}
use Rattle.addr2line_unit.specs.KeptFunctions.{kept_at, FindsChain}
use Rattle.addr2line_unit.specs.ResolvedUnits.{ResolvedUnit, AnsweredUnit, value_of_unit}
use Rattle.addr2line_lookups.specs.KeptUnits.{KeepsFunctionList}
use Rattle.addr2line_lookups.specs.KeptCalls.{known_among, kept_calls_of}
use Rattle.addr2line_lookups.specs.FunctionPlaces.{function_calls_at, FindsCalls}
use Rattle.addr2line_lookups.proofs.UnitChanges.{changes_one, changes_both}
use Rattle.addr2line_lookups.proofs.AskedLines.{no_lines_set, no_lines_both}
use Rattle.addr2line_lookups.proofs.KeptLines.{same_length}
use Rattle.addr2line_lookups.proofs.UnitRows.{same_values}
use Rattle.addr2line_lookups.proofs.CallsOfUnits.{value_here, if_here, holds_here, set_here, holds_set, holds_same, chain_set}
use Rattle.addr2line_lookups.proofs.FoundFunctions.{calls_found}
use Rattle.addr2line_lookups.specs.LookupCosts.{chain_probes_at}
use Rattle.addr2line_lookups.proofs.KeptFunctionLists.{functions_same}
use Rattle.addr2line_lookups.proofs.UnitProbes.{looks_after, looks_more}
use Rattle.addr2line_lookups.proofs.LookupProbes.{looks_for_chain}
use Rattle.addr2line_lookups.proofs.function_place.find_calls.Goals as goal

pub index_mut-unit-requires : goal.index_mut-unit-requires
index_mut-unit-requires g c =
    let same =
    same_length c.keep_calls.new.units.items c.args.units.now.items c.in_ok-keep_calls.ensures.values in
    let below = c.requires.unit in
    omega (arith, same, below)

pub returns : goal.returns
returns g c =
    let us = c.args.units.now.items in
    let ws = c.keep_calls.new.units.items in
    let known = known_among us c.args.supplement_units.now in
    let n = c.args.number in
    let k = c.args.function in
    let u = c.index_mut-unit.result.now in
    let is = c.index_mut-unit.ensures.value in
    let new = c.find_chain.new.self in
    let settled = c.in_ok-keep_calls.ensures in
    let below : n < length ws =
    subst (λ l. n < l) (sym (same_length ws us settled.values)) c.requires.unit in
    let value : new.value ≡ u.value = ap value_of_unit c.find_chain.ensures.unit in
    let calls : new.calls ≡ u.calls = ap kept_calls_of c.find_chain.ensures.unit in
    let holds =
    holds_same known u new value calls (holds_here ws n u below is known settled.calls) in
    let P : List (Option (Result FunctionCalls Error)) → Type 0 = λ cs. is_some (kept_at cs k) ≡ true in
    let Q : List (Option (Result FunctionCalls Error)) → Type 0 = λ cs.
    FindsChain (λ (done : Unit {0}). new.chain) (kept_at cs k) c.args.probe c.find_chain.result in
    let answer = function_calls_at known (map value_of_unit us) k n in
    let has : is_some (kept_at u.calls k) ≡ true =
    if_here ws n u below is (λ w. is_some (kept_at w.calls k) ≡ true) settled.kept in
    let R : List ℕ → Type 0 = λ chain. FindsCalls (set ws n new) n k c.args.probe answer c.find_chain.result chain in
    record {
      values = same_values ws n u new is value ∙ settled.values;
      calls = holds_set ws n u below is new known holds settled.calls;
      found =
          subst R (sym (chain_set ws n u below is new))
          (calls_found known _ n k c.args.probe new (map value_of_unit us) c.find_chain.result new.chain
          (set_here ws n u below is new)
          (ap (λ (l : List AnsweredUnit). slice_get l n) (sym settled.values) ∙ value_here ws n u below is
          ∙ ap Some (sym value))
          holds
          (subst P (sym calls) has)
          (subst Q (sym calls) c.find_chain.ensures.chain));
      cost =
          looks_after (chain_probes_at known (map value_of_unit us) c.args.probe k n) us ws (set ws n new) settled.cost
          (looks_for_chain ws n u below is new known (map value_of_unit us) c.args.probe k settled.values
          (holds_here ws n u below is known settled.calls) has (record {
            probes = c.find_chain.ensures.cost;
            runs = ap (λ (x : ResolvedUnit). x.runs) c.find_chain.ensures.unit;
            more = λ kept. ap (λ (x : ResolvedUnit). x.keeps_lines) c.find_chain.ensures.unit ∙ kept;
            functions =
                functions_same u new (ap (λ (x : ResolvedUnit). x.keeps_functions) c.find_chain.ensures.unit) calls;
          }));
      lines =
          no_lines_both us ws (set ws n new) settled.lines
          (no_lines_set ws n u is new (ap (λ (x : ResolvedUnit). x.keeps_lines) c.find_chain.ensures.unit));
      functions =
          changes_both KeepsFunctionList (λ m. m ≡ n) us ws (set ws n new) n refl settled.functions
          (changes_one KeepsFunctionList ws n new);
    }

pub returns-in_err-keep_calls : goal.returns-in_err-keep_calls
returns-in_err-keep_calls g c =
    let p = err_from_is_err_and c.from_residual.result c.from_residual.ensures.1 in
    let refused = c.in_err-keep_calls.ensures in
    record {
      values = refused.values;
      calls = refused.calls;
      found = rw (p.1, p.2) (λ m. absurd (m refused.refusal));
      cost = looks_more _ c.args.units.now.items c.keep_calls.new.units.items refused.cost;
      lines = refused.lines;
      functions = refused.functions;
    }
