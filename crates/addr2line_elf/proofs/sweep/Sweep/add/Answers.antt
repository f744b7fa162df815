use Rattle.std.proofs.Common.{◌≡◌, subst, sym, reverse, inl, inr, arith}
use Rattle.std.proofs.lemmas.Bool.{cases_lt}
use Rattle.std.proofs.lemmas.Result.{on_ok_weaker}
use Rattle.addr2line_elf.specs.declared.sweep.Sweep.{Sweep}
use Rattle.addr2line_elf.proofs.SymbolSweepLemmas.{IsReady, ready_here, ready_at}
use Rattle.addr2line_elf.proofs.sweep.Sweep.add.Goals.{in-Some+in_ok-sweep_to, in_default}
use Rattle.addr2line_elf.proofs.sweep.Sweep.add.Goals as goal

pub returns-clause-ok : goal.returns-clause-ok
returns-clause-ok c =
    let v = c.args.entry.value in
    let ss = c.args.self.now.stretches.items in
    let active = reverse c.args.self.now.active.items in
    let now = c.match-checked_sub.self in
    let at = λ (s : Sweep). IsReady v ss active s.stretches.items (reverse s.active.items) in
    let ready : IsReady v ss active now.stretches.items (reverse now.active.items) =
    elim c.match-checked_sub.branch [
      | in-Some+in_ok-sweep_to w ↦
          let next = w.sweep_to.new.self in
          subst at (sym w.self-is)
          (ready_at w.in-Some.before v ss active next.stretches.items (reverse next.active.items)
          (omega (arith, w.in-Some.ensures.0, w.in-Some.ensures.1)) w.in_ok-sweep_to.ensures.filled
          w.in_ok-sweep_to.ensures.ok)
      | in_default w ↦
          let none : v ≡ 0 =
          elim (cases_lt v 1) [ inl below ↦ omega arith | inr from ↦ absurd (w.in_default.ensures from) ] in
          subst at (sym w.self-is) (ready_here v ss active none)
    ] in
    on_ok_weaker c.cover.result
    (λ covers low entries from h. covers entries ready.filled (ready.swept low entries from h)) c.cover.ensures.ok
