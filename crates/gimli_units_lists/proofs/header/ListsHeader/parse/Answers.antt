-- What is defined by a table's bytes never runs out of memory.
use Rattle.gimli_core_readers.proofs.MemoryLemmas.{free-refused}
use Rattle.gimli_units_lists.proofs.ListTableMemoryLemmas.{free-lists_header}
use Rattle.gimli_units_lists.proofs.header.ListsHeader.parse.Goals as goal

pub returns-in_err-header-clause-free : goal.returns-in_err-header-clause-free
returns-in_err-header-clause-free g c =
    λ _. free-refused _ _ _ c.from_residual-in_err-header.ensures.1 c.in_err-header.ensures (free-lists_header _ _)
