use Rattle.addr2line_unit.proofs.KeptParses.{keeps_whole, stays_whole}
use Rattle.addr2line_unit.proofs.ResolvedViews.{same_seen}
use Rattle.addr2line_unit.proofs.unit.ResUnit.make_whole.Goals as goal

pub invariant_of-self : goal.invariant_of-self
invariant_of-self g c =
    let i = c.self.inside in
    let w = c.make_whole.new.self in
    keeps_whole i.main w i.load i.first i.lines i.functions i.probes.name c.make_whole.ensures.unit
    (stays_whole c.make_whole.result i.main w c.make_whole.ensures.ok c.make_whole.ensures.err) c.self.invariant

pub returns-clause-unit : goal.returns-clause-unit
returns-clause-unit g c =
    same_seen c.self.inside.main.counted c.make_whole.new.self.counted _ _ _ _ c.self.inside.functions _ _ _
    c.make_whole.ensures.unit
    c.self.view_is
