use Rattle.std.proofs.Common.{Ok}
use Rattle.gimli_core_abbrev.proofs.CacheMaps.{set_cached}
use Rattle.gimli_core_abbrev.proofs.cache.AbbreviationsCache.set.Goals as goal

pub returns-clause-ok : goal.returns-clause-ok
returns-clause-ok g c =
    set_cached c.put_table.result c.args.self.now c.self.inside.tables.entries c.put_table.new.tables.entries
    c.into_u64.result (g.O.ReaderOffset.count c.args.offset.0) (Ok c.args.abbreviations) c.self.view_is
    c.into_u64.ensures.value c.put_table.ensures.ok
