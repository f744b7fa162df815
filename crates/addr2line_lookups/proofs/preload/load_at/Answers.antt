use Rattle.addr2line_lookups.proofs.PendingUnits.{load_there, no_load_past}
use Rattle.addr2line_lookups.proofs.preload.load_at.Goals as goal

pub returns-in-Some : goal.returns-in-Some
returns-in-Some g c =
    load_there c.args.units.now c.args.number (λ l. l.now) c.pending_load.result c.in-Some.unit.now c.in-Some.ensures
    c.pending_load.ensures

pub returns-in-None : goal.returns-in-None
returns-in-None g c = no_load_past c.args.units.now c.args.number c.in-None.ensures
