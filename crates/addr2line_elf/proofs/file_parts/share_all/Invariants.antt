-- The parts so far.
use Rattle.std.proofs.Common.{◌≡◌, take}
use Rattle.addr2line_elf.proofs.file_parts.share_all.Given as goal

abbrev pub invariant-loop-part : goal.invariant-loop-part
invariant-loop-part l = l.all.items ≡ take l.part-index l.parts
