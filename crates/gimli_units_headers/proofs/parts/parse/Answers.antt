-- A length is read without memory, and the bytes that it counts end where the part does.
use Rattle.std.proofs.Common.{arith}
use Rattle.gimli_core_readers.proofs.MemoryLemmas.{free-refused, free-initial_length}
use Rattle.gimli_units_headers.proofs.PartLemmas.{counted_fits}
use Rattle.gimli_units_headers.proofs.parts.parse.Goals as goal

pub returns-in_err-length-clause-free : goal.returns-in_err-length-clause-free
returns-in_err-length-clause-free g c =
    free-refused _ _ _ c.from_residual.ensures.1 c.in_err-length.ensures.0 (free-initial_length _ _)

pub parse_in-requires-clause-below : goal.parse_in-requires-clause-below
parse_in-requires-clause-below g c =
    let fits = counted_fits _ _ _ _ _ c.in_ok-length.ensures c.in_ok-truncate.ensures in omega (arith, fits)
