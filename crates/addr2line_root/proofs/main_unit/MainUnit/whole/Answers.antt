use Rattle.std.proofs.Common.{sym, ap, ◌∙◌}
use Rattle.addr2line_root.specs.MainUnits.{MainUnit}
use Rattle.addr2line_root.proofs.KeptUnits.{id_of_bare}
use Rattle.addr2line_root.proofs.main_unit.MainUnit.whole.Goals as goal

pub returns-else-self : goal.returns-else-self
returns-else-self g c = (
  sym (ap (λ (u : MainUnit). u.is_whole) c.self.view_is) ∙ c.if-self.false,
  sym (ap (λ (u : MainUnit). u.counted.unit.facts.dwo_id) c.self.view_is)
      ∙ id_of_bare c.self.inside.is_whole c.self.inside.counted.unit c.if-self.false c.self.invariant,
)
