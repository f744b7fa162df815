use Rattle.std.proofs.Common.{◌≡◌, List, ℕ, drop, flat_map, Option}
use Rattle.addr2line_decompress.specs.CompressedSections.{texts_from}
use Rattle.addr2line_decompress.specs.DecompressedBytes.{text_bytes}
use Rattle.addr2line_decompress.specs.WrittenBytes.{append}
use Rattle.addr2line_decompress.proofs.SectionLoops.{prepend}
use Rattle.addr2line_decompress.proofs.bytes_after.ImageBytes.texts.Given as goal

-- the texts so far, which are written, and then those that are left
abbrev pub invariant-loop-index : goal.invariant-loop-index
invariant-loop-index l =
    (texts : List (Option (List ℕ)))
    × (prepend texts (texts_from l.index (drop l.index l.sections)) ≡ texts_from 0 l.sections)
    × (l.self ≡ append (flat_map text_bytes texts) l.fn.self)
