use Rattle.addr2line_elf.proofs.FilePartLemmas.{reads_none, reads_then}
use Rattle.addr2line_elf.proofs.needed.read_ranges.Goals as goal

pub loop-range-init : goal.loop-range-init
loop-range-init g c = reads_none g.S.PartSource.is_file c.args.source.now c.args.file.now

pub loop-range-preserved : goal.loop-range-preserved
loop-range-preserved g c =
    reads_then g.S.PartSource.is_file _ _ _ _ _ _ c.loop-range.invariant c.read.ensures.reads

pub returns-in_err-read-clause-reads : goal.returns-in_err-read-clause-reads
returns-in_err-read-clause-reads g c =
    reads_then g.S.PartSource.is_file _ _ _ _ _ _ c.loop-range.invariant c.read.ensures.reads
