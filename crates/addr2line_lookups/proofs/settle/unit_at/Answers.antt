use Rattle.std.proofs.Common.{sym, ap, ◌∙◌, Some}
use Rattle.std.proofs.lemmas.Option.{slice_get-get_or, slice_get_past}
use Rattle.addr2line_lookups.proofs.settle.unit_at.Goals as goal

pub returns-in-Some : goal.returns-in-Some
returns-in-Some g c =
    ap Some c.in-Some.ensures.lookup.1
    ∙ sym (slice_get-get_or c.args.units.now c.args.number c.in-Some.unit.now c.in-Some.ensures.lookup.3.0)

pub returns-in-None : goal.returns-in-None
returns-in-None g c = sym (slice_get_past c.args.units.now c.args.number c.in-None.ensures.lookup.3)
