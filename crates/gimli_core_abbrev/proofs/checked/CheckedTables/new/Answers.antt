use Rattle.gimli_core_abbrev.proofs.KeptDeclarations.{none_kept}
use Rattle.gimli_core_abbrev.proofs.checked.CheckedTables.new.Goals as goal

pub returns-clause-none : goal.returns-clause-none
returns-clause-none c = none_kept c.new.result.entries c.new.ensures.empty
