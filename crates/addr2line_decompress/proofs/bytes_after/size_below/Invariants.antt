use Rattle.std.proofs.Common.{◌≡◌, ◌+◌, take}
use Rattle.std.specs.Prelude.{sum_by}
use Rattle.addr2line_decompress.specs.CompressedSections.{Section}
use Rattle.addr2line_decompress.specs.DecompressedBytes.{new_size}
use Rattle.addr2line_decompress.proofs.bytes_after.size_below.Given as goal

-- the size with the texts so far
abbrev pub invariant-loop-section : goal.invariant-loop-section
invariant-loop-section l =
    l.size ≡ l.len + sum_by (λ (s : Section). new_size s.change) (take l.section-index l.sections)
