use Rattle.std.proofs.Common.{◌+◌, [], ◌∷◌, ◌++◌, reverse, ap, sym, ◌∙◌, subst}
use Rattle.addr2line_elf.specs.SymbolSweeps.{first_active, IsSweptTo, IsFilledTo}
use Rattle.addr2line_elf.proofs.SymbolSweepLemmas.{stretch_to, swept_filled, filled_to}
use Rattle.addr2line_elf.proofs.sweep.Sweep.sweep_to.Goals as goal

pub returns-in_ok-push-clause-ok : goal.returns-in_ok-push-clause-ok
returns-in_ok-push-clause-ok c = λ entries h.
    let last = c.args.last in
    let stretches = c.close.new.self.stretches.items in
    let active = c.close.new.self.active.items in
    subst (λ ss. IsSweptTo (last + 1) ss (reverse active) entries)
    (sym (c.in_ok-push.ensures.items
    ∙ ap (λ entry. stretches ++ stretch_to last entry ∷ [])
    (c.first_active-entry.ensures ∙ ap (λ es. first_active (reverse es)) c.deref-then-not-ends_at.ensures.value)))
    (swept_filled last stretches (reverse active) entries c.in_ok-close.ensures.above
    (c.in_ok-close.ensures.ok entries h))

pub returns-in_ok-push-clause-filled : goal.returns-in_ok-push-clause-filled
returns-in_ok-push-clause-filled c =
    subst (IsFilledTo (c.args.last + 1)) (sym c.in_ok-push.ensures.items)
    (filled_to c.args.last c.close.new.self.stretches.items c.first_active-entry.result)
