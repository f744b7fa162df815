use Rattle.std.proofs.Common.{◌≡◌, [], reverse, subst, arith}
use Rattle.std.proofs.lemmas.List.{nil_from_length}
use Rattle.addr2line_elf.specs.SymbolSweeps.{IsSwept}
use Rattle.addr2line_elf.proofs.SymbolSweepLemmas.{closed_last, swept_all}
use Rattle.addr2line_elf.proofs.sweep.Sweep.finish.Goals as goal

pub loop-entry-preserved : goal.loop-entry-preserved
loop-entry-preserved c = record {
  swept = λ entries h. closed_last c.loop-entry.stretches.items c.push.new.self.items c.loop-entry.active.items
      c.pop.new.self.items entries c.in-Some.entry c.last_covered.result c.in-Some.ensures.items
      c.last_covered.ensures c.in_ok-push.ensures.items (c.loop-entry.invariant.swept entries h);
  count = omega (arith, c.in-Some.ensures.len, c.in_ok-push.ensures.len, c.loop-entry.invariant.count);
}

pub returns-clause-ok : goal.returns-clause-ok
returns-clause-ok c = λ low entries h.
    let active = c.loop-entry.active in
    let stretches = c.loop-entry.stretches.items in
    let ended : active.items ≡ [] =
    nil_from_length active.items (omega (arith, active.ok.0, c.in_default.ensures.cases.0)) in
    swept_all stretches entries
    (subst (λ es. IsSwept stretches (reverse es) entries) ended (c.loop-entry.invariant.swept entries h.swept))
