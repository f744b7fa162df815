-- What is cached is the section's own.
use Rattle.gimli_dwarf.proofs.CachedFaults.{cached_fault}
use Rattle.gimli_dwarf.proofs.dwarf.Dwarf.abbreviations.Goals as goal

pub returns-clause-free : goal.returns-clause-free
returns-clause-free g c e =
    rw (← c.self.view_is) (λ cached refused.
    c.get.ensures.free e (cached_fault c.self.inside.debug_abbrev c.self.inside.abbreviations_cache
    (g.R.Offset.ReaderOffset.count c.args.offset.0) e c.self.invariant.0 cached refused))
