use Rattle.std.proofs.Common.{◌∙◌, ap}
use Rattle.addr2line_functions.specs.UnitLines.{lines_of_unit}
use Rattle.addr2line_root.specs.LineIndexes.{counted_lines}
use Rattle.addr2line_unit.specs.ResolvedUnits.{ResolvedUnit, if_kept}
use Rattle.addr2line_unit.proofs.KeptParses.{kept_is}
use Rattle.addr2line_unit.proofs.unit.ResUnit.kept_lines.Goals as goal

pub returns : goal.returns
returns g c =
    c.result.ensures.kept
    ∙ kept_is (counted_lines c.self.inside.probes.name (lines_of_unit c.self.inside.main.counted.unit))
    c.self.inside.lines c.self.invariant.lines_are
    ∙ ap (λ (u : ResolvedUnit). if_kept u.keeps_lines (counted_lines u.probes.name u.value.unit.lines)) c.self.view_is
