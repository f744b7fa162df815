-- Reading the header of a set never runs out of memory.
use Rattle.gimli_core_readers.proofs.MemoryLemmas.{free-refused}
use Rattle.gimli_units_headers.proofs.HeaderMemoryLemmas.{free-arange_fields}
use Rattle.gimli_units_headers.proofs.arange_set.ArangeHeaderSectionPart.parse_in.Goals as goal

pub returns-in_err-fields-clause-free : goal.returns-in_err-fields-clause-free
returns-in_err-fields-clause-free g c =
    free-refused _ _ _ c.from_residual.ensures.1 c.in_err-fields.ensures.value (free-arange_fields _ _ _)
