use Rattle.std.proofs.Common.{◌-◌, length, sym}
use Rattle.std.proofs.lemmas.Bool.{eqb-true}
use Rattle.addr2line_elf.proofs.SymbolSweepLemmas.{filled_at}
use Rattle.addr2line_elf.proofs.sweep.ends_at.Goals as goal

pub returns-in-Some : goal.returns-in-Some
returns-in-Some c = λ is.
    let stretches = c.args.stretches.now in
    filled_at c.args.last (length stretches - 1) stretches c.in-Some.stretch.now (sym c.in-Some.ensures.value)
    (eqb-true c.in-Some.stretch.now.last c.args.last is)
