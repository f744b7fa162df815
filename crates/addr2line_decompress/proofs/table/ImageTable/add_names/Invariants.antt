use Rattle.std.proofs.Common.{◌≡◌, ◌++◌, drop}
use Rattle.addr2line_decompress.specs.CompressedSections.{added_names}
use Rattle.addr2line_decompress.proofs.table.ImageTable.add_names.Given as goal

-- the names so far, and then those that are left
abbrev pub invariant-loop-index : goal.invariant-loop-index
invariant-loop-index l =
    l.names.items ++ added_names l.which l.self.image l.index (drop l.index l.self.image.sections)
    ≡ l.fn.names.items ++ added_names l.which l.self.image 0 l.self.image.sections
