use Rattle.std.proofs.Common.{◌≡◌, ℕ, List, map, Option, Ok, refl, sym, ap, ◌∙◌, subst, arith}
use Rattle.std.proofs.lemmas.Result.{err_from_is_err_and}
use Rattle.addr2line_unit.specs.Contexts.{ContextUnit}
use Rattle.addr2line_unit.specs.Error.TheVariants.{Memory}
use Rattle.addr2line_unit.specs.ResolvedUnits.{value_of_unit}
use Rattle.addr2line_lookups.specs.declared.frame_place.FramePlace.{FramePlace}
use Rattle.addr2line_lookups.specs.KeptUnits.{row_at_number, KeepsFunctionList}
use Rattle.addr2line_lookups.specs.KeptCalls.{known_among}
use Rattle.addr2line_lookups.specs.FunctionPlaces.{function_with_calls_at, chain_of, FindsFunction}
use Rattle.addr2line_lookups.specs.FramePlaces.{frames_at_number, FindsFrames}
use Rattle.addr2line_lookups.proofs.KeptLines.{same_plain}
use Rattle.addr2line_lookups.proofs.UnitChanges.{changes_first}
use Rattle.addr2line_lookups.proofs.AskedLines.{no_refusal, reads_nothing, reads_after}
use Rattle.addr2line_lookups.proofs.CallsOfUnits.{hold_same}
use Rattle.addr2line_lookups.proofs.FoundFrames.{none_past, function_refuses, found_function, lines_refuse, function_stays, frames_found}
use Rattle.addr2line_lookups.proofs.UnitProbes.{refused_so}
use Rattle.addr2line_lookups.proofs.LookupProbes.{looks_without_row, looks_for_frames}
use Rattle.addr2line_lookups.proofs.AskedFunctions.{is_value}
use Rattle.addr2line_lookups.proofs.UnitTurns.{no_functions_past}
use Rattle.addr2line_lookups.proofs.AddressSearches.{searches_none}
use Rattle.addr2line_lookups.proofs.frame_place.find_frames_at.Goals as goal

pub returns-then-number-len : goal.returns-then-number-len
returns-then-number-len g c =
    let us = c.args.units.now.items in
    record {
      change =
          searches_none (known_among us c.args.supplement_units.now) (λ n. n ≡ c.args.number) _ us c.requires.calls;
      found =
          none_past (known_among us c.args.supplement_units.now) c.args.probe c.args.number us (map value_of_unit us)
          refl (omega arith);
      kept = λ answered. no_functions_past us c.args.number (omega arith);
    }

pub find_function_at-requires : goal.find_function_at-requires
find_function_at-requires g c = record {
  unit = omega arith;
  decided = c.requires.decided;
  calls = c.requires.calls;
}

pub returns-in_err-function : goal.returns-in_err-function
returns-in_err-function g c =
    let p = err_from_is_err_and c.from_residual.result c.from_residual.ensures.1 in
    let us = c.args.units.now.items in
    let known = known_among us c.args.supplement_units.now in
    let refused = c.in_err-function.ensures in
    record {
      change = record {
        values = refused.values;
        calls = refused.calls;
        cost =
            looks_without_row known (map value_of_unit us) c.args.probe c.args.number us
            c.find_function_at.new.units.items refused.cost;
        reads = reads_nothing (λ n. n ≡ c.args.number) us c.find_function_at.new.units.items refused.lines;
        functions = refused.functions;
      };
      kept = rw (p.1, p.2) (λ other. refused.kept (refused_so (Option FramePlace) (Option ℕ) _ Memory other));
      found =
          rw (p.1, p.2) (λ m.
          function_refuses known c.args.probe c.args.number (map value_of_unit us) _ (refused.found m));
    }

pub returns-in_err-row : goal.returns-in_err-row
returns-in_err-row g c =
    let r = c.from_residual-in_err-row in
    let p = err_from_is_err_and r.result r.ensures.1 in
    let us = c.args.units.now.items in
    let vs = map value_of_unit us in
    let known = known_among us c.args.supplement_units.now in
    let n = c.args.number in
    let a = c.args.probe in
    let ws = c.find_function_at.new.units.items in
    let xs = c.find_row_at.new.units.items in
    let found = c.in_ok-function.ensures in
    let refused = c.in_err-row.ensures in
    let f =
    found_function ws n a (function_with_calls_at known vs a n) c.in_ok-function.function
    (chain_of ws n) found.found in
    record {
      change = record {
        values = refused.values ∙ found.values;
        calls = hold_same known ws xs refused.values refused.same found.calls;
        cost = looks_for_frames us ws xs found.values c.args.supplement_units.now a n known found.cost refused.cost;
        reads = reads_after (λ m. m ≡ n) us ws xs found.lines refused.reads;
        functions = changes_first KeepsFunctionList (λ m. m ≡ n) us ws xs found.functions refused.functions;
      };
      kept = λ answered. refused.cost.functions.functions n (found.kept (is_value _));
      found = rw (p.1, p.2) (λ m. lines_refuse known a n ws vs found.values f.0 _ f.1 (refused.found m));
    }

pub returns : goal.returns
returns g c =
    let us = c.args.units.now.items in
    let vs = map value_of_unit us in
    let known = known_among us c.args.supplement_units.now in
    let n = c.args.number in
    let a = c.args.probe in
    let ws = c.find_function_at.new.units.items in
    let xs = c.find_row_at.new.units.items in
    let chain = chain_of ws n in
    let function = c.in_ok-function.function in
    let row = c.in_ok-row.row in
    let found = c.in_ok-function.ensures in
    let rows = c.in_ok-row.ensures in
    let P : Option FramePlace → Type 0 = λ o. FindsFrames xs (frames_at_number known vs a n) (Ok o) in
    let Q : List ℕ → Type 0 = λ numbers.
    FindsFunction xs n a (function_with_calls_at known vs a n) (Ok function) numbers in
    record {
      change = record {
        values = rows.values ∙ found.values;
        calls = hold_same known ws xs rows.values rows.same found.calls;
        cost = looks_for_frames us ws xs found.values c.args.supplement_units.now a n known found.cost rows.cost;
        reads = reads_after (λ m. m ≡ n) us ws xs found.lines rows.reads;
        functions = changes_first KeepsFunctionList (λ m. m ≡ n) us ws xs found.functions rows.functions;
      };
      kept = λ answered. rows.cost.functions.functions n (found.kept (is_value _));
      found =
          subst P (sym c.place_if_any.ensures)
          (frames_found known a n xs vs (rows.values ∙ found.values) (rows.kept (no_refusal row)) function row
          (subst Q (sym rows.chain)
          (function_stays ws xs rows.values rows.same n a (function_with_calls_at known vs a n) function chain
          found.found))
          (ap (λ (l : List ContextUnit). row_at_number l a n) (same_plain xs ws rows.values) ∙ rows.found));
    }
