use Rattle.std.proofs.Common.{map}
use Rattle.addr2line_lookups.specs.ContextUnits.{unit_places, ordered_ranges}
use Rattle.addr2line_lookups.proofs.RangeUnits.{asked_on_way}
use Rattle.addr2line_context.proofs.walk_laws.step_asks_on_its_way.Goals as goal

pub returns : goal.returns
returns _ c w number asks =
    asked_on_way (map unit_places c.plain.context.units) (ordered_ranges c.plain.context.units) w number asks
