-- The size that was read is one that an address may have.
use Rattle.gimli_units_headers.proofs.ByteCountLemmas.{address_size_took}
use Rattle.gimli_lines_header.proofs.parsing.parse_sizes.Goals as goal

pub returns-else-branch-ne0-clause-address : goal.returns-else-branch-ne0-clause-address
returns-else-branch-ne0-clause-address g c = ((address_size_took _).hold _ _ c.in_ok-address_size-in-5.ensures).0
