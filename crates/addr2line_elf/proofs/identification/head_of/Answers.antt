use Rattle.std.proofs.Common.{arith}
use Rattle.addr2line_elf.proofs.RangeReads.{head_is, head_refused}
use Rattle.addr2line_elf.proofs.identification.head_of.Goals as goal

pub returns-clause-same : goal.returns-clause-same
returns-clause-same c =
    head_is (λ b. b.now) c.slice.result c.head_size.result c.args.file.now.bytes
    (omega (arith, c.len.ensures, c.head_size.ensures.within))
    (λ few. let enough = c.head_size.ensures.enough few in omega (arith, c.len.ensures)) c.slice.ensures.bytes

pub returns-clause-refusal : goal.returns-clause-refusal
returns-clause-refusal c =
    head_refused (λ b. b.now) c.slice.result c.head_size.result c.args.file.now.bytes
    (omega (arith, c.len.ensures, c.head_size.ensures.within)) c.slice.ensures.bytes
