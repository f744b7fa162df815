use Rattle.std.proofs.Common.{◌+◌, drop}
use Rattle.gimli_lines_write_tables.proofs.JoinedWrites.{next_drop}
use Rattle.gimli_lines_write_unit.proofs.WrittenLists.{format_done}
use Rattle.gimli_lines_write_unit.proofs.pieces.write_formats.Goals as goal

pub loop-format-preserved : goal.loop-format-preserved
loop-format-preserved g c =
    format_done (g.W.Writer.contents c.write_u8.new.self) (g.W.Writer.contents c.loop-format.w)
    (g.W.Writer.contents c.write_format.new.w) c.args.formats.now _
    (drop (c.loop-format.format-index + 1) c.args.formats.now) (drop c.loop-format.format-index c.args.formats.now)
    c.loop-format.invariant (next_drop c.args.formats.now c.loop-format.format-index _ c.loop-format-test.true)
    c.in_ok-write_format.ensures
