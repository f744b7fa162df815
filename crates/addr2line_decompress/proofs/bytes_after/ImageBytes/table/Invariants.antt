use Rattle.std.proofs.Common.{◌≡◌, ◌+◌, ◌++◌, take, drop}
use Rattle.std.specs.Prelude.{sum_by}
use Rattle.addr2line_decompress.specs.CompressedSections.{Section}
use Rattle.addr2line_decompress.specs.DecompressedBytes.{new_size, table_bytes}
use Rattle.addr2line_decompress.proofs.bytes_after.ImageBytes.table.Given as goal

-- the offset after the texts so far; what is written, and then what is left
abbrev pub invariant-loop-section : goal.invariant-loop-section
invariant-loop-section l =
    (l.offset ≡ l.start + sum_by (λ (s : Section). new_size s.change) (take l.section-index l.sections))
    × (l.self.class ≡ l.fn.self.class)
    × (l.self.is_big ≡ l.fn.self.is_big)
    × (l.self.bytes ++ table_bytes l.self.class l.self.is_big l.offset (drop l.section-index l.sections)
    ≡ l.fn.self.bytes ++ table_bytes l.self.class l.self.is_big l.start l.sections)
