use Rattle.std.proofs.Common.{◌≡◌, ◌∙◌, subst, List, map, option_map}
use Rattle.addr2line_unit.specs.BorrowedLocations.{location_value}
use Rattle.addr2line_unit.specs.ResolvedUnits.{ResolvedUnit, plain_unit}
use Rattle.addr2line_lookups.specs.KeptUnits.{KeepsAt, location_of_unit_row}
use Rattle.addr2line_lookups.proofs.units.Units.place_in.Goals as goal

pub returns : goal.returns
returns g c =
    let P : List ResolvedUnit → Type 0 =
    λ us. KeepsAt us c.args.found.unit → option_map location_value c.place_in.result
    ≡ location_of_unit_row (map plain_unit us) c.args.found in
    subst P (c.as_slice.ensures.value ∙ c.self.view_is) c.place_in.ensures
