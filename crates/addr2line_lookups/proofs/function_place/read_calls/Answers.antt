use Rattle.std.proofs.Common.{Result, sym, ap, ◌∙◌, subst}
use Rattle.std.proofs.lemmas.Result.{err_from_is_err_and}
use Rattle.addr2line_unit.specs.Error.{Error}
use Rattle.addr2line_unit.specs.Calls.{ReturnsAsOrNoMemory}
use Rattle.addr2line_unit.specs.InlinedCalls.{FunctionCalls}
use Rattle.addr2line_unit.specs.EntryReferences.{KnownUnits}
use Rattle.addr2line_unit.specs.CountedFunctions.{CountedCalls}
use Rattle.addr2line_lookups.specs.KeptCalls.{known_among, calls_among}
use Rattle.addr2line_lookups.proofs.CallsOfUnits.{known_is, calls_from_holder, no_calls_from}
use Rattle.addr2line_lookups.proofs.function_place.read_calls.Goals as goal

pub in_order-requires : goal.in_order-requires
in_order-requires g c = record {
  units = c.requires.order.units;
  supplement = c.requires.order.supplement_units;
}

pub returns : goal.returns
returns g c =
    let v = c.args.unit.now.value in
    let k = c.args.function in
    let us = c.args.units.now in
    let s = c.args.supplement_units.now in
    let P : Result FunctionCalls Error → Type 0 =
    λ m. ReturnsAsOrNoMemory (λ (f : CountedCalls). f.function) c.read_calls.result m in
    record {
      calls =
          subst P
          (sym (ap (λ (x : KnownUnits). calls_among x v k)
          (known_is us s c.in_order.result c.in_order.ensures.units c.in_order.ensures.supplement)
          ∙ calls_from_holder c.in_order.result v c.in_ok-functions_unit.field-0 k c.in_ok-functions_unit.ensures.unit))
          c.read_calls.ensures.calls;
      counter = c.read_calls.ensures.counter;
    }

pub returns-in_err-functions_unit : goal.returns-in_err-functions_unit
returns-in_err-functions_unit g c =
    let p = err_from_is_err_and c.from_residual.result c.from_residual.ensures.1 in
    let known = known_among c.args.units.now c.args.supplement_units.now in
    record {
      calls =
          rw (p.1, p.2) (λ m.
          no_calls_from known c.args.unit.now.value c.args.function _ (c.in_err-functions_unit.ensures.unit m));
      counter = rw p.1 tt;
    }
