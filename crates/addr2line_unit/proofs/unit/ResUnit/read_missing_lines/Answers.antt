use Rattle.std.proofs.Common.{◌∙◌, ap}
use Rattle.addr2line_unit.specs.ResolvedUnits.{ResolvedUnit}
use Rattle.addr2line_unit.proofs.KeptParses.{keeps_run, keeps_whole}
use Rattle.addr2line_unit.proofs.unit.ResUnit.read_missing_lines.Goals as goal

pub invariant_of-self : goal.invariant_of-self
invariant_of-self g c =
    let i = c.self.inside in
    keeps_whole i.main c.read_lines.new.self i.load i.first i.lines i.functions i.probes.name
    c.in_err-lines.ensures.counted c.in_err-lines.ensures.whole c.self.invariant

pub invariant_of-self-2 : goal.invariant_of-self-2
invariant_of-self-2 g c =
    let i = c.self.inside in
    keeps_run i.main c.read_lines.new.self i.load i.first i.lines c.keep.new.self i.functions i.probes.name
    c.keep.result c.in_ok-lines.lines c.self.invariant
    (ap (λ (u : ResolvedUnit). u.keeps_lines) c.self.view_is ∙ c.requires)
    c.in_ok-lines.ensures.lines c.in_ok-lines.ensures.counted c.in_ok-lines.ensures.whole c.keep.ensures.ok
    c.keep.ensures.cause c.in_ok-lines.ensures.answer
