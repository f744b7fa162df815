-- Each entry takes a byte, and leaves what comes after some bytes.
use Rattle.gimli_core_readers.proofs.PlaceLemmas.{IsAfter-same}
use Rattle.gimli_units_lists.proofs.LocationEntryPlaces.{Goes-location_entry}
use Rattle.gimli_units_lists.proofs.LocationEntrySizes.{location_entry_takes}
use Rattle.gimli_units_lists.proofs.RawListSteps.{takes_bytes}
use Rattle.gimli_units_lists.proofs.location_entry.RawLocListEntryListEntry.parse.Goals as goal

pub returns-in_err-entry-clause-takes : goal.returns-in_err-entry-clause-takes
returns-in_err-entry-clause-takes g c =
    takes_bytes (location_entry_takes g.R.Offset.ReaderOffset.limit c.args.how.0 c.args.how.1)

pub returns-clause-takes : goal.returns-clause-takes
returns-clause-takes g c =
    takes_bytes (location_entry_takes g.R.Offset.ReaderOffset.limit c.args.how.0 c.args.how.1)

pub bytes_before-count-requires : goal.bytes_before-count-requires
bytes_before-count-requires g c =
    IsAfter-same _ _ _ c.borrowed-place.ensures
    ((Goes-location_entry _ _ _).goes _ _ _ c.in_ok-entry.ensures.value)
