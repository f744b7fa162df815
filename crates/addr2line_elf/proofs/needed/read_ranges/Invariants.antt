-- What was read so far.
use Rattle.addr2line_elf.specs.FileParts.{ReadsParts}
use Rattle.addr2line_elf.proofs.needed.read_ranges.Given as goal

abbrev pub invariant-loop-range : goal.invariant-loop-range
invariant-loop-range g l = ReadsParts g.S.PartSource.is_file l.fn.source l.fn.file l.source l.file
