-- What was written, and the sections that are left, are the whole.
use Rattle.std.proofs.Common.{◌≡◌, ◌++◌, drop}
use Rattle.linemap_elf.specs.WrittenImages.{names_joined}
use Rattle.linemap_elf.proofs.sections.write_names.Given as goal

abbrev pub invariant-loop-section : goal.invariant-loop-section
invariant-loop-section l =
    (l.w.is_big ≡ l.fn.w.is_big) × (l.w.class ≡ l.fn.w.class)
    × (l.w.bytes ++ names_joined (drop l.section-index l.sections) ≡ l.fn.w.bytes ++ names_joined l.sections)
