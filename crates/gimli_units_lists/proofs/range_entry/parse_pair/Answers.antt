-- Addresses were read, so their size is one that addresses have.
use Rattle.gimli_units_lists.proofs.RangeEntrySizes.{addresses_have_size}
use Rattle.gimli_units_lists.proofs.range_entry.parse_pair.Goals as goal

pub greatest_address-requires : goal.greatest_address-requires
greatest_address-requires g c = addresses_have_size c.args.address_size _ _ _ c.in_ok-begin.ensures
