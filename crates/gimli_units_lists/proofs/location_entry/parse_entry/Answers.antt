-- Reading an entry never runs out of memory where its bytes need none.
use Rattle.gimli_core_readers.proofs.MemoryLemmas.{free_answer}
use Rattle.gimli_units_lists.proofs.ListEntryMemoryLemmas.{free-location_kind, free-location_pair}
use Rattle.gimli_units_lists.proofs.location_entry.parse_entry.Goals as goal

pub returns-then-by_kind-clause-free : goal.returns-then-by_kind-clause-free
returns-then-by_kind-clause-free g c =
    λ copies. free_answer _ c.parse_kind.result _ (c.parse_kind.ensures.free copies) (free-location_kind _ _ _)

pub returns-else-by_kind-clause-free : goal.returns-else-by_kind-clause-free
returns-else-by_kind-clause-free g c =
    λ copies. free_answer _ c.parse_pair.result _ (c.parse_pair.ensures.free copies) (free-location_pair _ _ _)
