use Rattle.addr2line_elf.proofs.FilePartLemmas.{reads_then}
use Rattle.addr2line_elf.proofs.needed.read_into.Goals as goal

pub returns-in-Ok-clause-reads : goal.returns-in-Ok-clause-reads
returns-in-Ok-clause-reads g c =
    reads_then g.S.PartSource.is_file _ _ _ _ _ _ c.read.ensures.reads c.read_image.ensures.reads
