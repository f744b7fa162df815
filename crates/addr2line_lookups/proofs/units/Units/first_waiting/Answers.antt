use Rattle.std.proofs.Common.{List, map, ◌∙◌, ap, sym, subst}
use Rattle.addr2line_unit.specs.NumberedRanges.{covering_ranges}
use Rattle.addr2line_unit.specs.UnitRange.{UnitRange}
use Rattle.addr2line_unit.specs.ContextUnits.{ordered_ranges}
use Rattle.addr2line_unit.specs.ResolvedUnits.{ResolvedUnit, plain_unit, value_of_unit}
use Rattle.addr2line_lookups.specs.Preloads.{loads_at, first_number}
use Rattle.addr2line_lookups.specs.PassedUnits.{PassLoads}
use Rattle.addr2line_lookups.proofs.units.Units.first_waiting.Goals as goal

pub first_waiting-requires : goal.first_waiting-requires
first_waiting-requires g c =
    let units = c.as_slice.result.now in
    let passes : List ResolvedUnit → List UnitRange → Type 0 =
    λ us rs. PassLoads (map value_of_unit us) c.args.probe c.args.from rs in
    let here : List ResolvedUnit → Type 0 = λ us. passes us (ordered_ranges (map plain_unit us)) in
    let same = c.as_slice.ensures.value ∙ c.self.view_is in
    let order =
    c.self.invariant
    ∙ ap (λ (us : List ResolvedUnit). ordered_ranges (map plain_unit us)) (sym c.as_slice.ensures.value) in
    subst (passes units) (sym order) (subst here (sym same) c.requires)

pub returns : goal.returns
returns g c =
    let units = c.as_slice.result.now in
    c.first_waiting.ensures
    ∙ ap (λ (rs : List UnitRange). first_number (loads_at (map value_of_unit units) (covering_ranges c.args.probe rs)))
    (c.self.invariant
    ∙ ap (λ (us : List ResolvedUnit). ordered_ranges (map plain_unit us)) (sym c.as_slice.ensures.value))
    ∙ ap (λ (us : List ResolvedUnit). first_number (loads_at (map value_of_unit us)
    (covering_ranges c.args.probe (ordered_ranges (map plain_unit us))))) (c.as_slice.ensures.value ∙ c.self.view_is)
