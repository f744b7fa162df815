use Rattle.std.proofs.Common.{◌≡◌, drop}
use Rattle.addr2line_decompress.specs.CompressedSections.{has_compressed}
use Rattle.addr2line_decompress.proofs.table.ImageTable.has_compressed.Given as goal

-- none so far
abbrev pub invariant-loop-index : goal.invariant-loop-index
invariant-loop-index l =
    has_compressed l.which l.self.image 0 l.self.image.sections
    ≡ has_compressed l.which l.self.image l.index (drop l.index l.self.image.sections)
