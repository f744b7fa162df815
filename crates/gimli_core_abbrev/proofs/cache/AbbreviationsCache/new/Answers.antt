use Rattle.gimli_core_abbrev.proofs.CacheMaps.{no_tables}
use Rattle.gimli_core_abbrev.proofs.cache.AbbreviationsCache.new.Goals as goal

pub returns-clause-none : goal.returns-clause-none
returns-clause-none c = no_tables c.new.result.entries c.new.ensures.empty
