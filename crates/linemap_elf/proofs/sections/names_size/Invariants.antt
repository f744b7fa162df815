-- The size so far, and that of the names that are left, are the whole.
use Rattle.std.proofs.Common.{◌≡◌, ◌+◌, drop, length}
use Rattle.linemap_elf.specs.WrittenImages.{names_joined}
use Rattle.linemap_elf.proofs.sections.names_size.Given as goal

abbrev pub invariant-loop-section : goal.invariant-loop-section
invariant-loop-section l =
    l.size + length (names_joined (drop l.section-index l.sections)) ≡ 1 + length (names_joined l.sections)
