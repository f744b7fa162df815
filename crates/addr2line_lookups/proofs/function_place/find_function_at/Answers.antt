use Rattle.std.proofs.Common.{◌≡◌, refl, ◌<◌, ℕ, IfSome, map, Option, Result, sym, ap, ◌∙◌, subst}
use Rattle.std.proofs.lemmas.Result.{err_from_is_err_and}
use Rattle.addr2line_unit.specs.Error.{Error}
use Rattle.addr2line_unit.specs.InlinedCalls.{FunctionCalls}
use Rattle.addr2line_unit.specs.EntryReferences.{KnownUnits}
use Rattle.addr2line_unit.specs.ResolvedUnits.{value_of_unit}
use Rattle.addr2line_lookups.specs.KeptUnits.{KeepsFunctionList}
use Rattle.addr2line_lookups.specs.KeptCalls.{known_among, HoldCalls}
use Rattle.addr2line_lookups.specs.FunctionPlaces.{HasFunctionAt, HoldsChain, chain_of}
use Rattle.addr2line_lookups.proofs.UnitChanges.{changes_both}
use Rattle.addr2line_lookups.proofs.AskedLines.{no_lines_both}
use Rattle.addr2line_lookups.proofs.KeptLines.{same_length}
use Rattle.addr2line_lookups.proofs.CallsLeft.{known_same}
use Rattle.addr2line_lookups.proofs.FoundFunctions.{ok_number, refused_functions, none_there, refused_calls, same_function_calls, function_found}
use Rattle.addr2line_lookups.proofs.LookupProbes.{looks_without_calls, looks_for_function}
use Rattle.addr2line_lookups.proofs.AskedFunctions.{is_value}
use Rattle.addr2line_lookups.proofs.function_place.find_function_at.Goals as goal

pub find_calls-requires : goal.find_calls-requires
find_calls-requires g c =
    let us = c.args.units.now.items in
    let s = c.args.supplement_units.now in
    let n = c.args.number in
    let ws = c.find_number_at.new.units.items in
    let found = c.in_ok-function.ensures in
    let P : Option ℕ → Type 0 = λ o. IfSome o (HasFunctionAt ws n) in
    let Q : KnownUnits → Type 0 = λ known. HoldCalls known ws in
    record {
      unit = subst (λ l. n < l) (sym (same_length ws us found.values)) c.requires.unit;
      function = subst P c.in-Some.is found.below;
      calls = subst Q (sym (known_same us ws found.values s)) (found.calls (known_among us s) c.requires.calls);
    }

pub returns-in_err-function : goal.returns-in_err-function
returns-in_err-function g c =
    let p = err_from_is_err_and c.from_residual.result c.from_residual.ensures.1 in
    let us = c.args.units.now.items in
    let known = known_among us c.args.supplement_units.now in
    let refused = c.in_err-function.ensures in
    record {
      values = refused.values;
      calls = refused.calls known c.requires.calls;
      lines = refused.lines;
      functions = refused.functions;
      kept = rw (p.1, p.2) refused.kept;
      found =
          rw (p.1, p.2) (λ m.
          refused_functions known c.args.probe c.args.number (map value_of_unit us) _ (refused.number m));
      cost =
          looks_without_calls known (map value_of_unit us) c.args.probe c.args.number us
          c.find_number_at.new.units.items refused.cost;
    }

pub returns-in_default : goal.returns-in_default
returns-in_default g c =
    let us = c.args.units.now.items in
    let known = known_among us c.args.supplement_units.now in
    let found = c.in_ok-function.ensures in
    record {
      values = found.values;
      calls = found.calls known c.requires.calls;
      lines = found.lines;
      functions = found.functions;
      kept = λ answered. found.kept (is_value _);
      found =
          none_there known c.args.probe c.args.number (map value_of_unit us)
          (found.number ∙ ap ok_number c.in_default.is);
      cost =
          looks_without_calls known (map value_of_unit us) c.args.probe c.args.number us
          c.find_number_at.new.units.items found.cost;
    }

pub returns-in_err-find_calls : goal.returns-in_err-find_calls
returns-in_err-find_calls g c =
    let r = c.from_residual-in_err-find_calls in
    let p = err_from_is_err_and r.result r.ensures.1 in
    let us = c.args.units.now.items in
    let s = c.args.supplement_units.now in
    let n = c.args.number in
    let k = c.in-Some.function in
    let known = known_among us s in
    let ws = c.find_number_at.new.units.items in
    let xs = c.find_calls.new.units.items in
    let found = c.in_ok-function.ensures in
    let refused = c.in_err-find_calls.ensures in
    let P : KnownUnits → Type 0 = λ x. HoldCalls x xs in
    record {
      values = refused.values ∙ found.values;
      calls = subst P (known_same us ws found.values s) refused.calls;
      lines = no_lines_both us ws xs found.lines refused.lines;
      functions =
          changes_both KeepsFunctionList (λ m. m ≡ n) us ws xs n refl found.functions refused.functions;
      kept = λ answered. refused.cost.functions.functions n (found.kept (is_value _));
      found =
          rw (p.1, p.2) (λ m.
          refused_calls known c.args.probe n (map value_of_unit us) k _ (found.number ∙ ap ok_number c.in-Some.is)
          (sym (same_function_calls us ws s found.values k n) ∙ refused.found m));
      cost =
          looks_for_function us ws xs found.values s c.args.probe n k (found.number ∙ ap ok_number c.in-Some.is)
          found.cost refused.cost;
    }

pub returns : goal.returns
returns g c =
    let us = c.args.units.now.items in
    let s = c.args.supplement_units.now in
    let n = c.args.number in
    let a = c.args.probe in
    let k = c.in-Some.function in
    let known = known_among us s in
    let ws = c.find_number_at.new.units.items in
    let xs = c.find_calls.new.units.items in
    let chain = chain_of xs n in
    let found = c.in_ok-function.ensures in
    let calls = c.in_ok-find_calls.ensures in
    let P : KnownUnits → Type 0 = λ x. HoldCalls x xs in
    let Q : Result FunctionCalls Error → Type 0 = λ m. HoldsChain xs n k a m chain in
    record {
      values = calls.values ∙ found.values;
      calls = subst P (known_same us ws found.values s) calls.calls;
      lines = no_lines_both us ws xs found.lines calls.lines;
      functions = changes_both KeepsFunctionList (λ m. m ≡ n) us ws xs n refl found.functions calls.functions;
      kept = λ answered. calls.cost.functions.functions n (found.kept (is_value _));
      found =
          function_found known a n xs (map value_of_unit us) k chain (calls.values ∙ found.values)
          (found.number ∙ ap ok_number c.in-Some.is)
          (subst Q (same_function_calls us ws s found.values k n) calls.found);
      cost =
          looks_for_function us ws xs found.values s a n k (found.number ∙ ap ok_number c.in-Some.is) found.cost
          calls.cost;
    }
