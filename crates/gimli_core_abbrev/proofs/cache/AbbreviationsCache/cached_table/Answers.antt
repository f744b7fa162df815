use Rattle.std.proofs.Common.{rules}
use Rattle.gimli_core_abbrev.proofs.CacheMaps.{get_cached}
use Rattle.gimli_core_abbrev.proofs.cache.AbbreviationsCache.cached_table.Goals as goal

pub returns : goal.returns
returns c = rw (← c.self.view_is, get_cached) (search rules)
