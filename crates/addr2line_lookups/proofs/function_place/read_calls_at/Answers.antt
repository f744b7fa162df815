use Rattle.std.proofs.Common.{◌≡◌, get_or, List, refl, sym, ◌∙◌, subst}
use Rattle.std.proofs.lemmas.Result.{err_from_is_err_and}
use Rattle.addr2line_unit.specs.Calls.{ReturnsAsOrNoMemory}
use Rattle.addr2line_unit.specs.CountedFunctions.{CountedCalls}
use Rattle.addr2line_unit.specs.OrderedUnits.{AreKnownInOrder}
use Rattle.addr2line_unit.specs.ResolvedUnits.{ResolvedUnit}
use Rattle.addr2line_lookups.specs.KeptCalls.{known_among, calls_among}
use Rattle.addr2line_lookups.specs.FunctionPlaces.{HasFunction}
use Rattle.addr2line_lookups.proofs.CallsOfUnits.{if_here, if_there, counter_there}
use Rattle.addr2line_lookups.proofs.function_place.read_calls_at.Goals as goal

pub read_calls-read-requires : goal.read_calls-read-requires
read_calls-read-requires g c =
    let s = c.args.supplement_units.now in
    record {
      function =
          if_here c.args.units.now.items c.args.number c.index-unit.result.now c.requires.unit c.index-unit.ensures
          (HasFunction c.args.function) c.requires.function;
      order =
          subst (λ (us : List ResolvedUnit). AreKnownInOrder (known_among us s)) (sym c.as_slice.ensures.value)
          c.requires.order;
    }

pub returns-in_err-make_all_whole : goal.returns-in_err-make_all_whole
returns-in_err-make_all_whole g c =
    let p = err_from_is_err_and c.from_residual.result c.from_residual.ensures.1 in
    let us = c.args.units.now.items in
    let known = known_among us c.args.supplement_units.now in
    record {
      units = c.in_err-make_all_whole.ensures.units;
      calls =
          if_there us c.args.number c.index-unit.result.now c.requires.unit c.index-unit.ensures
          (λ w. ReturnsAsOrNoMemory (λ (x : CountedCalls). x.function) c.from_residual.result
          (calls_among known w.value c.args.function))
          (rw (p.1, p.2) (λ m. absurd (m c.in_err-make_all_whole.ensures.refusal)));
      counter = rw p.1 tt;
    }

pub returns-then-not-matches : goal.returns-then-not-matches
returns-then-not-matches g c =
    let us = c.args.units.now.items in
    let s = c.args.supplement_units.now in
    let n = c.args.number in
    let u = c.index-unit.result.now in
    let read = c.read_calls-read.result in
    let P : List ResolvedUnit → Type 0 = λ l.
    ReturnsAsOrNoMemory (λ (x : CountedCalls). x.function) read
    (calls_among (known_among l s) u.value c.args.function) in
    record {
      units = refl;
      calls =
          if_there us n u c.requires.unit c.index-unit.ensures
          (λ w. ReturnsAsOrNoMemory (λ (x : CountedCalls). x.function) read
          (calls_among (known_among us s) w.value c.args.function))
          (subst P c.as_slice.ensures.value c.read_calls-read.ensures.calls);
      counter =
          counter_there us n u c.requires.unit c.index-unit.ensures read c.read_calls-read.ensures.counter;
    }

-- ---- once all units are whole

pub read_calls-requires : goal.read_calls-requires
read_calls-requires g c =
    let s = c.args.supplement_units.now in
    let n = c.args.number in
    let u = c.index-unit-2.result.now in
    let same = c.in_ok-make_all_whole.ensures.units in
    let is : u ≡ get_or c.args.units.now.items n u =
    subst (λ (l : List ResolvedUnit). u ≡ get_or l n u) same c.index-unit-2.ensures in
    record {
      function =
          if_here c.args.units.now.items n u c.requires.unit is (HasFunction c.args.function)
          c.requires.function;
      order =
          subst (λ (us : List ResolvedUnit). AreKnownInOrder (known_among us s))
          (sym (c.as_slice-2.ensures.value ∙ same)) c.requires.order;
    }

pub returns : goal.returns
returns g c =
    let us = c.args.units.now.items in
    let s = c.args.supplement_units.now in
    let n = c.args.number in
    let u = c.index-unit-2.result.now in
    let same = c.in_ok-make_all_whole.ensures.units in
    let is : u ≡ get_or c.args.units.now.items n u =
    subst (λ (l : List ResolvedUnit). u ≡ get_or l n u) same c.index-unit-2.ensures in
    let read = c.read_calls.result in
    let P : List ResolvedUnit → Type 0 = λ l.
    ReturnsAsOrNoMemory (λ (x : CountedCalls). x.function) read
    (calls_among (known_among l s) u.value c.args.function) in
    record {
      units = same;
      calls =
          if_there us n u c.requires.unit is
          (λ w. ReturnsAsOrNoMemory (λ (x : CountedCalls). x.function) read
          (calls_among (known_among us s) w.value c.args.function))
          (subst P (c.as_slice-2.ensures.value ∙ same) c.read_calls.ensures.calls);
      counter = counter_there us n u c.requires.unit is read c.read_calls.ensures.counter;
    }
