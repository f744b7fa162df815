use Rattle.std.proofs.Common.{◌∙◌, sym}
use Rattle.linemap_lookup.proofs.LineParts.{part_all, part_to}
use Rattle.linemap_lookup.proofs.lines.part_of_line.Goals as goal

pub returns-in-Some : goal.returns-in-Some
returns-in-Some c = part_to c.args.bytes.now c.in-Some.index (sym c.index_of_line_feed.ensures ∙ c.in-Some.is)

pub returns-in-None : goal.returns-in-None
returns-in-None c = part_all c.args.bytes.now (sym c.index_of_line_feed.ensures ∙ c.in-None.is)
