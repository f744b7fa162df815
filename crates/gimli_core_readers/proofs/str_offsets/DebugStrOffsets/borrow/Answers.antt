-- The reader that the function is lent is the section's own.
use Rattle.std.proofs.Common.{rules, refl}
use Rattle.gimli_core_readers.proofs.str_offsets.DebugStrOffsets.borrow.Goals as goal

pub returns : goal.returns
returns g c = (c.self.inside.section, c.f.result, c.self.view_is, search rules, refl)
