use Rattle.std.proofs.Common.{drop}
use Rattle.gimli_lines_write_unit.proofs.WrittenLists.{FormatsLeft}
use Rattle.gimli_lines_write_unit.proofs.pieces.write_formats.Given as goal

abbrev pub invariant-loop-format : goal.invariant-loop-format
invariant-loop-format g l =
    FormatsLeft (g.W.Writer.contents l.initial.w) (g.W.Writer.contents l.w) l.formats (drop l.format-index l.formats)
