use Rattle.std.proofs.Common.{rules}
use Rattle.gimli_core_readers.proofs.section.Section.load.Goals as goal

pub returns-in_err-f : goal.returns-in_err-f
returns-in_err-f g c = (c.f.result, rw (← c.id.ensures) c.f.ensures, search rules)

pub returns : goal.returns
returns g c = (c.f.result, rw (← c.id.ensures) c.f.ensures, search rules)
