use Rattle.std.proofs.Common.{arith}
use Rattle.gimli_core_abbrev.proofs.StoredDeclarations.{begin_after}
use Rattle.gimli_core_abbrev.proofs.table.begin_of.Goals as goal

pub returns-else-place-eq0 : goal.returns-else-place-eq0
returns-else-place-eq0 c = begin_after _ _ _ (omega arith) c.requires
