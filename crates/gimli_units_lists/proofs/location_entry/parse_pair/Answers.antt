-- Addresses were read, so their size is one that addresses have.
use Rattle.gimli_core_readers.proofs.PlaceLemmas.{Goes-on}
use Rattle.gimli_units_lists.proofs.LocationEntryPlaces.{Goes-addresses}
use Rattle.gimli_units_lists.proofs.RangeEntrySizes.{addresses_have_size}
use Rattle.gimli_units_lists.proofs.location_entry.parse_pair.Goals as goal

pub greatest_address-requires : goal.greatest_address-requires
greatest_address-requires g c = addresses_have_size c.args.encoding.address_size _ _ _ c.in_ok-begin.ensures

pub parse_expression-requires : goal.parse_expression-requires
parse_expression-requires g c = Goes-on _ _ _ _ _ (Goes-addresses _) c.requires c.in_ok-begin.ensures
