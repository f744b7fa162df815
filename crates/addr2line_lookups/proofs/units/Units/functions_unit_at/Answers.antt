use Rattle.std.proofs.Common.{◌∙◌, ap, sym, subst, List, map}
use Rattle.addr2line_unit.specs.ResolvedUnits.{ResolvedUnit, value_of_unit}
use Rattle.addr2line_lookups.specs.KeptUnits.{KeepsFunctionsAt}
use Rattle.addr2line_lookups.specs.UnitLookups.{unit_at_number}
use Rattle.addr2line_lookups.proofs.units.Units.functions_unit_at.Goals as goal

pub returns : goal.returns
returns g c = λ kept.
    let same = c.as_slice.ensures.value ∙ c.self.view_is in
    c.functions_unit_at.ensures
    (subst (λ (us : List ResolvedUnit). KeepsFunctionsAt us c.args.number) (sym same) kept)
    ∙ ap (λ (us : List ResolvedUnit). unit_at_number (map value_of_unit us) c.args.number) same
