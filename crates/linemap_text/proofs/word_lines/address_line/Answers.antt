use Rattle.std.proofs.Common.{rules}
use Rattle.linemap_text.proofs.word_lines.address_line.Goals as goal

pub unreachable-requires : goal.unreachable-requires
unreachable-requires g c =
    c.requires c.args.address c.in-Err.field-0 (c.in-Err.ensures.place (search rules))
