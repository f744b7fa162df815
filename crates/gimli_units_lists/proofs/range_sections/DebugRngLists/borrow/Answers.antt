-- The reader that the function is lent is the section's own.
use Rattle.std.proofs.Common.{rules, refl}
use Rattle.gimli_units_lists.proofs.range_sections.DebugRngLists.borrow.Goals as goal

pub returns : goal.returns
returns g c = (c.self.inside.section, c.f.result, c.self.view_is, search rules, refl)
