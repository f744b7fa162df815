use Rattle.std.proofs.Common.{◌+◌, reverse, sym, subst, arith}
use Rattle.addr2line_elf.specs.SymbolSweeps.{IsSweptTo}
use Rattle.addr2line_elf.proofs.SymbolSweepLemmas.{to_closed_last}
use Rattle.addr2line_elf.proofs.sweep.Sweep.close.Goals as goal

pub loop-entry-preserved : goal.loop-entry-preserved
loop-entry-preserved c =
    let ended = c.in-Some.ensures.ended in
    record {
      swept = λ entries h. to_closed_last (c.args.last + 1) c.loop-entry.self.stretches.items c.push.new.self.items
          c.loop-entry.self.active.items c.pop_ending_by.new.active.items entries c.in-Some.entry c.last_covered.result
          ended.0 (omega (arith, ended.1)) c.last_covered.ensures c.in_ok-push.ensures.items
          (c.loop-entry.invariant.swept entries h);
      count = omega (arith, c.in-Some.ensures.count, c.in_ok-push.ensures.len, c.loop-entry.invariant.count);
    }

pub returns-clause-ok : goal.returns-clause-ok
returns-clause-ok c = λ entries h.
    subst (λ es. IsSweptTo (c.args.last + 1) c.loop-entry.self.stretches.items (reverse es) entries)
    (sym c.in_default.ensures.ended) (c.loop-entry.invariant.swept entries h)
