-- The size so far, and that of the sections that are left, are the whole.
use Rattle.std.proofs.Common.{◌≡◌, ◌+◌, drop, length}
use Rattle.linemap_elf.specs.WrittenImages.{bytes_joined}
use Rattle.linemap_elf.proofs.sections.bytes_size.Given as goal

abbrev pub invariant-loop-section : goal.invariant-loop-section
invariant-loop-section l =
    l.size + length (bytes_joined (drop l.section-index l.sections)) ≡ length (bytes_joined l.sections)
