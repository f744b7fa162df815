-- The address of an index takes no memory.
use Rattle.gimli_core_readers.proofs.MemoryLemmas.{free_answer, free-address_at}
use Rattle.gimli_units_lists.proofs.resolver.Resolver.address.Goals as goal

pub returns-clause-free : goal.returns-clause-free
returns-clause-free g c =
    free_answer (λ x. x) c.get_address.result _ c.get_address.ensures
    (free-address_at c.self.inside.address_size (g.R.Offset.ReaderOffset.count c.self.inside.debug_addr_base.0)
    (g.R.Offset.ReaderOffset.count c.args.index.0) c.self.inside.debug_addr)
