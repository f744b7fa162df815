use Rattle.std.proofs.Common.{arith}
use Rattle.addr2line_elf.proofs.RangeReads.{no_room}
use Rattle.addr2line_elf.proofs.table.parse_all.Goals as goal

pub returns-in-None : goal.returns-in-None
returns-in-None c =
    λ _. no_room c.args.class c.args.offset c.args.count c.args.file.now (omega (arith, c.in-None.ensures))
