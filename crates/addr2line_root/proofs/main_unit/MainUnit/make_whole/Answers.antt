use Rattle.std.proofs.Common.{ap, ◌∙◌}
use Rattle.addr2line_root.specs.MainUnits.{MainUnit}
use Rattle.addr2line_root.proofs.KeptUnits.{bare_if_kept, counted_made_whole}
use Rattle.addr2line_root.proofs.main_unit.MainUnit.make_whole.Goals as goal

pub make_whole-requires : goal.make_whole-requires
make_whole-requires g c =
    bare_if_kept c.self.inside.is_whole c.self.inside.counted.unit c.if-self.false c.self.invariant

pub returns-clause-unit : goal.returns-clause-unit
returns-clause-unit g c =
    counted_made_whole c.self.inside.is_whole c.self.inside.counted c.make_whole.new.self c.if-self.false
    c.in_ok-make_whole.ensures.ok
    ∙ ap (λ (u : MainUnit). u.counted) c.self.view_is
