use Rattle.std.proofs.Common.{◌≡◌, List, [], Ok, map, ◌∙◌, ap, sym, subst}
use Rattle.addr2line_unit.specs.Calls.{ReturnsAsOrNoMemory}
use Rattle.addr2line_unit.specs.Lookups.{one_each}
use Rattle.addr2line_unit.specs.NumberedRanges.{covering_ranges}
use Rattle.addr2line_unit.specs.UnitRange.{UnitRange}
use Rattle.addr2line_unit.specs.ContextUnits.{ordered_ranges}
use Rattle.addr2line_unit.specs.ResolvedUnits.{ResolvedUnit, plain_unit, value_of_unit}
use Rattle.addr2line_lookups.specs.Preloads.{loads_at, load_of_item}
use Rattle.addr2line_lookups.proofs.units.Units.pending_loads.Goals as goal

pub returns-clause-loads : goal.returns-clause-loads
returns-clause-loads g c =
    let units = c.as_slice.result.now in
    subst (λ (us : List ResolvedUnit). ReturnsAsOrNoMemory (λ loads. map load_of_item loads.items)
    c.pending_loads.result
    (Ok (one_each (loads_at (map value_of_unit us)
    (covering_ranges c.args.probe (ordered_ranges (map plain_unit us)))))))
    (c.as_slice.ensures.value ∙ c.self.view_is)
    (subst (λ (rs : List UnitRange). ReturnsAsOrNoMemory (λ loads. map load_of_item loads.items)
    c.pending_loads.result
    (Ok (one_each (loads_at (map value_of_unit units) (covering_ranges c.args.probe rs)))))
    (c.self.invariant
    ∙ ap (λ (us : List ResolvedUnit). ordered_ranges (map plain_unit us)) (sym c.as_slice.ensures.value))
    c.pending_loads.ensures.loads)

pub returns-clause-free : goal.returns-clause-free
returns-clause-free g c = λ none.
    let units = c.as_slice.result.now in
    let P : List ResolvedUnit → Type 0 = λ us.
    loads_at (map value_of_unit us) (covering_ranges c.args.probe (ordered_ranges (map plain_unit us))) ≡ [] in
    let Q : List UnitRange → Type 0 = λ rs.
    loads_at (map value_of_unit units) (covering_ranges c.args.probe rs) ≡ [] in
    c.pending_loads.ensures.free
    (subst Q
    (sym (c.self.invariant
    ∙ ap (λ (us : List ResolvedUnit). ordered_ranges (map plain_unit us)) (sym c.as_slice.ensures.value)))
    (subst P (sym (c.as_slice.ensures.value ∙ c.self.view_is)) none))
