use Rattle.std.proofs.Common.{Option, option_map, subst, sym, ap, ◌∙◌}
use Rattle.addr2line_functions.specs.Calls.{ReturnsAsOrNoMemory}
use Rattle.addr2line_functions.specs.DwarfFiles.{DwarfFile}
use Rattle.addr2line_functions.specs.Contexts.{units_of_supplement}
use Rattle.addr2line_unit.proofs.supplement.units_of_supplement.Goals as goal

pub returns-in-Some : goal.returns-in-Some
returns-in-Some g c =
    let P : Option DwarfFile → Type 0 =
    λ x. ReturnsAsOrNoMemory (λ units. units.items) c.readable_units.result (units_of_supplement x) in
    subst P (sym (ap (option_map (λ r. r.now.file)) c.in-Some.is) ∙ c.sup.ensures) c.readable_units.ensures
