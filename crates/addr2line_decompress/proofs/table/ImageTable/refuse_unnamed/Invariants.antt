use Rattle.std.proofs.Common.{◌≡◌, drop}
use Rattle.addr2line_decompress.specs.CompressedSections.{refuse_unnamed}
use Rattle.addr2line_decompress.proofs.table.ImageTable.refuse_unnamed.Given as goal

-- none is refused so far
abbrev pub invariant-loop-index : goal.invariant-loop-index
invariant-loop-index l =
    refuse_unnamed l.self.image 0 l.self.image.sections
    ≡ refuse_unnamed l.self.image l.index (drop l.index l.self.image.sections)
