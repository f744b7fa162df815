use Rattle.std.proofs.Common.{◌∙◌, sym, Some, None}
use Rattle.addr2line_lookups.proofs.KeptLines.{keeps_at}
use Rattle.addr2line_lookups.proofs.UnitRows.{location_by_number}
use Rattle.addr2line_lookups.proofs.settle.place_in.Goals as goal

pub returns-in-Some : goal.returns-in-Some
returns-in-Some g c = λ kept.
    let us = c.args.units.now in
    let unit = c.in-Some.unit.now in
    c.location_of_row.ensures (keeps_at us c.args.found.unit unit c.in-Some.ensures kept)
    ∙ sym (location_by_number us c.args.found (Some unit) c.in-Some.ensures)

pub returns-in-None : goal.returns-in-None
returns-in-None g c = λ kept. sym (location_by_number c.args.units.now c.args.found None c.in-None.ensures)
