use Rattle.linemap_elf.proofs.HeaderLoops.{IsWrittenTo}
use Rattle.linemap_elf.proofs.headers.write_headers.Given as goal

abbrev pub invariant-loop-section : goal.invariant-loop-section
invariant-loop-section l = IsWrittenTo l.fn.w l.w l.name l.offset l.section-index l.sections
