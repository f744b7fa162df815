use Rattle.addr2line_elf.proofs.FilePartLemmas.{reads_then}
use Rattle.addr2line_elf.proofs.needed.read_image.Goals as goal

pub returns-in_err-read-2-clause-reads : goal.returns-in_err-read-2-clause-reads
returns-in_err-read-2-clause-reads g c =
    reads_then g.S.PartSource.is_file _ _ _ _ _ _ c.read.ensures.reads c.read-2.ensures.reads

pub returns-clause-reads : goal.returns-clause-reads
returns-clause-reads g c =
    reads_then g.S.PartSource.is_file _ _ _ _ _ _ c.read.ensures.reads
    (reads_then g.S.PartSource.is_file _ _ _ _ _ _ c.read-2.ensures.reads c.read_sections.ensures.reads)
