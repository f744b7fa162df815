use Rattle.std.proofs.Common.{◌∙◌, ap, sym, subst, map, List}
use Rattle.addr2line_unit.specs.UnitRange.{UnitRange}
use Rattle.addr2line_unit.specs.ContextUnits.{ordered_ranges}
use Rattle.addr2line_unit.specs.ResolvedUnits.{ResolvedUnit, plain_unit, value_of_unit}
use Rattle.addr2line_lookups.specs.KeptCalls.{known_among, HoldCalls}
use Rattle.addr2line_lookups.specs.PassedUnits.{Pass, PassedAreKept}
use Rattle.addr2line_lookups.specs.AddressSearches.{SettlesAmong}
use Rattle.addr2line_lookups.proofs.KeptLines.{same_plain}
use Rattle.addr2line_lookups.proofs.units.Units.settle.Goals as goal

pub settle-requires : goal.settle-requires
settle-requires g c =
    let search = g.S.AddressSearch in
    let s = c.args.supplement_units.now in
    let a = c.args.probe in
    let from = c.args.from.now in
    let here = c.self.inside.units.items in
    let passes : List ResolvedUnit → List UnitRange → Type 0 =
    λ us rs. Pass (search.ask (known_among us s) a) search.nothing (map value_of_unit us) a from rs in
    let keeps : List ResolvedUnit → List UnitRange → Type 0 = λ us rs. PassedAreKept us a from rs in
    record {
      calls = subst (λ (us : List ResolvedUnit). HoldCalls (known_among us s) us) (sym c.self.view_is) c.requires.calls;
      passed =
          subst (passes here) (sym c.self.invariant)
          (subst (λ (us : List ResolvedUnit). passes us (ordered_ranges (map plain_unit us))) (sym c.self.view_is)
          c.requires.passed);
      kept =
          subst (keeps here) (sym c.self.invariant)
          (subst (λ (us : List ResolvedUnit). keeps us (ordered_ranges (map plain_unit us))) (sym c.self.view_is)
          c.requires.kept);
    }

pub invariant_of-self : goal.invariant_of-self
invariant_of-self g c =
    c.self.invariant
    ∙ ap ordered_ranges
    (sym (same_plain c.settle.new.units.items c.self.inside.units.items c.settle.ensures.change.values))

pub returns : goal.returns
returns g c =
    let search = g.S.AddressSearch in
    let s = c.args.supplement_units.now in
    let a = c.args.probe in
    let settles : List ResolvedUnit → List UnitRange → Type 0 =
    λ us rs.
    SettlesAmong search.is_something search.nothing (search.ask (known_among us s) a) search.Finds search.Refuses
    (known_among us s) a rs us c.settle.result c.settle.new.units.items c.settle.new.from in
    subst (λ (us : List ResolvedUnit). settles us (ordered_ranges (map plain_unit us))) c.self.view_is
    (subst (settles c.self.inside.units.items) c.self.invariant c.settle.ensures)
