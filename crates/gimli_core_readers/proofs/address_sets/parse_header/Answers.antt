-- What is read of a header by itself is never out of memory.
use Rattle.gimli_core_readers.proofs.MemoryLemmas.{free-refused, free-initial_length, free-set_encoding}
use Rattle.gimli_core_readers.proofs.address_sets.parse_header.Goals as goal

pub returns-in_err-length-clause-free : goal.returns-in_err-length-clause-free
returns-in_err-length-clause-free g c =
    λ _. free-refused _ _ _ c.from_residual.ensures.1 c.in_err-length.ensures.0 (free-initial_length _ _)

pub returns-in_err-encoding-clause-free : goal.returns-in_err-encoding-clause-free
returns-in_err-encoding-clause-free g c =
    λ _. free-refused _ _ _ c.from_residual-in_err-encoding.ensures.1 c.in_err-encoding.ensures (free-set_encoding _ _)
