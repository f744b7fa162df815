use Rattle.std.proofs.Common.{ap, ◌∙◌}
use Rattle.addr2line_root.specs.MainUnits.{MainUnit}
use Rattle.addr2line_ranges.specs.UnitFacts.{UnitFacts, UnitInFile}
use Rattle.addr2line_root.proofs.KeptUnits.{header_of_kept}
use Rattle.addr2line_root.proofs.main_unit.MainUnit.header.Goals as goal

pub returns : goal.returns
returns g c =
    ap (λ (f : UnitFacts). f.header) (c.facts.view_is ∙ c.unit-facts.ensures)
    ∙ ap (λ (u : UnitInFile). u.facts.header) c.unit-unit.ensures
    ∙ header_of_kept c.self.inside.is_whole c.self.inside.counted.unit c.self.invariant
    ∙ ap (λ (u : MainUnit). u.counted.unit.facts.header) c.self.view_is
