use Rattle.std.proofs.Common.{ap, Some, option_map, sym, ◌∙◌}
use Rattle.addr2line_unit.specs.Lines.{row_location}
use Rattle.addr2line_lookups.proofs.frame_place.location_of_row.Goals as goal

pub returns-in-Some : goal.returns-in-Some
returns-in-Some c =
    ap Some c.location_of_row.ensures
    ∙ ap (option_map (row_location c.args.lines.now.lines.files)) (sym c.in-Some.is)
