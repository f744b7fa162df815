-- An address size that was read is one.
use Rattle.gimli_core_readers.proofs.ByteCountLemmas.{address_size_took}
use Rattle.gimli_units_headers.proofs.arange_set.parse_fields.Goals as goal

pub padding-requires : goal.padding-requires
padding-requires g c = ((address_size_took _).hold _ _ c.in_ok-address_size.ensures).0

pub returns-clause-address : goal.returns-clause-address
returns-clause-address g c = ((address_size_took _).hold _ _ c.in_ok-address_size.ensures).0
