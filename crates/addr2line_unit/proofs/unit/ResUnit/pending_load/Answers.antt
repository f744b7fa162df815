use Rattle.std.proofs.Common.{◌≡◌, None, sym, ap, ◌∙◌}
use Rattle.addr2line_unit.specs.ResolvedUnits.{ResolvedUnit, undecided, pending_load}
use Rattle.addr2line_unit.proofs.unit.ResUnit.pending_load.Goals as goal

pub returns-in-Err : goal.returns-in-Err
returns-in-Err g c =
    let i = c.self.inside in
    let none : undecided i.load i.first ≡ None = ap (λ l. undecided l i.first) c.in-Err.ensures in
    sym none ∙ ap (λ l. undecided l i.first) c.self.invariant.load_is
    ∙ ap (λ (u : ResolvedUnit). pending_load u.value) c.self.view_is
