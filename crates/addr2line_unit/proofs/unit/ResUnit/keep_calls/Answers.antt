use Rattle.std.proofs.Common.{◌≡◌, ℕ, IfOk, sym, ap, ◌∙◌, subst}
use Rattle.addr2line_unit.specs.ResolvedUnits.{ResolvedUnit}
use Rattle.addr2line_unit.proofs.FunctionParses.{keeps_calls_after}
use Rattle.addr2line_unit.proofs.KeptParses.{keeps_functions, same_functions}
use Rattle.addr2line_unit.proofs.ResolvedViews.{with_calls_after}
use Rattle.addr2line_unit.proofs.unit.ResUnit.keep_calls.Goals as goal

pub returns-clause-ok : goal.returns-clause-ok
returns-clause-ok g c =
    with_calls_after _ _ _ c.self.inside.functions c.keep_calls.new.self _ _ c.args.self.now c.args.function
    c.args.read c.keep_calls.result c.keep_calls.ensures.ok c.self.view_is

pub invariant_of-self : goal.invariant_of-self
invariant_of-self g c =
    let i = c.self.inside in
    let new = c.keep_calls.new.self in
    let P : ℕ → Type 0 = λ n. IfOk c.args.read (λ x. x.counter ≡ n) in
    keeps_functions i.main i.load i.first i.lines i.functions new i.probes.name c.self.invariant
    (keeps_calls_after i.main.counted.unit i.load i.first i.functions new i.probes.name c.args.function c.args.read
    c.keep_calls.result c.keep_calls.ensures.ok c.keep_calls.ensures.err
    (subst P (sym (ap (λ (u : ResolvedUnit). u.probes.name) c.self.view_is)) c.requires.counter)
    c.self.invariant.functions_are)
    (λ kept.
    c.self.invariant.is_whole
    (sym (same_functions i.functions new c.args.function c.args.read c.keep_calls.result c.keep_calls.ensures.ok
    c.keep_calls.ensures.err)
    ∙ kept))
