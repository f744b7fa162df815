use Rattle.std.proofs.Common.{◌<◌, length, rules}
use Rattle.linemap_lookup.proofs.LineTexts.{yields}
use Rattle.linemap_lookup.proofs.lines.LineBuffer.next_address.Goals as goal

pub returns-in-Ok-2-clause-address : goal.returns-in-Ok-2-clause-address
returns-in-Ok-2-clause-address g c =
    let some : 0 < length c.read_line.new.self.line.items = search rules in
    yields _ _ _ c.read_line.new.self _ c.address_in_line.result c.in-Ok-2.ensures.line some c.address_in_line.ensures
    (search rules) c.in-Ok-2.ensures.failed c.in-Ok-2.ensures.fewer
