use Rattle.std.proofs.Common.{arith}
use Rattle.addr2line_elf.proofs.SymbolSweepLemmas.{covered_last}
use Rattle.addr2line_elf.proofs.sweep.Sweep.cover.Goals as goal

pub returns-clause-ok : goal.returns-clause-ok
returns-clause-ok c = λ entries filled h.
    covered_last c.args.entry c.last_covered.result c.args.self.now.stretches.items c.args.self.now.active.items
    c.pop_all_ending_by.new.active.items c.push.new.self.items entries c.last_covered.ensures
    c.pop_all_ending_by.ensures.left c.in_ok-push.ensures.items (omega arith) filled h
