-- The sections of range lists and location lists, and the lists in them (DWARF 5, 7.25, 7.28 and
-- 7.29).
use Rattle.std.specs.Prelude.{ℕ, ◌+◌, ◌^◌, ◌==◌, nat_lt, nat_le, Bool, true, List, Option, option_map, Result, Ok, Err, if◌then◌else◌}
use Rattle.gimli_core_readers.specs.Error.{Error}
use Rattle.gimli_core_readers.specs.Error.TheVariants.{OffsetSumOverflow, UnknownVersion, UnsupportedSegmentSize}
use Rattle.std.specs.Option.{option_or}
use Rattle.gimli_core_readers.specs.View.{View, index_of}
use Rattle.gimli_core_readers.specs.Parsers.{Parser, ◌>>=◌, ◌>>◌, give, demand, lift, skip, here, truncate, value_of}
use Rattle.gimli_core_readers.specs.Encoding.{Encoding}
use Rattle.gimli_core_readers.specs.Format.{Format}
use Rattle.gimli_core_readers.specs.SectionId.{SectionId}
use Rattle.gimli_core_readers.specs.SectionId.TheVariants.{DebugRanges, DebugRngLists, DebugLoc, DebugLocLists}
use Rattle.gimli_core_readers.specs.NumberParsers.{fixed, initial_length, address_size, offset_below}
use Rattle.gimli_core_readers.specs.SectionReads.{table_offset_at}
use Rattle.gimli_core_readers.specs.declared.range.Range.{Range}
use Rattle.gimli_units_lists.specs.declared.header.ListsHeader.{ListsHeader}
use Rattle.gimli_units_lists.specs.Lists.{Resolution, RemainingList, answers_to_come}
use Rattle.gimli_units_lists.specs.RangeEntries.{RemainingRawRanges, range_lists}
use Rattle.gimli_units_lists.specs.LocationEntries.{RemainingRawLocations, Location, location_lists}

-- ---- resolved lists

-- before the first entry of a unit's list
abbrev pub from_low_pc : Encoding → ℕ → ℕ → View → Resolution
from_low_pc encoding low_pc addr_base addresses =
    record {
      setting = record {
        address_size = encoding.address_size;
        addresses = addresses;
        addr_base = addr_base;
      };
      base = low_pc;
    }

-- what an iterator over the ranges of a list has left
pub record RemainingRanges : Type 0 where
  pub raw : RemainingRawRanges
  pub against : Resolution

-- the list that it goes over
abbrev pub range_list : RemainingRanges → RemainingList Encoding
range_list r = record { how = r.raw.encoding; rest = r.raw.rest; against = r.against }

-- the ranges that it answers from here on, and the faults among them
abbrev pub ranges_to_come : ℕ → RemainingRanges → List (Result Range Error)
ranges_to_come limit r = answers_to_come range_lists limit (range_list r)

-- what an iterator over the locations of a list has left
pub record RemainingLocations : Type 0 where
  pub raw : RemainingRawLocations
  pub against : Resolution

-- the list that it goes over
abbrev pub location_list : RemainingLocations → RemainingList (Encoding × Bool)
location_list r =
    record { how = (r.raw.encoding, r.raw.by_kind); rest = r.raw.rest; against = r.against }

-- the locations that it answers from here on, and the faults among them
abbrev pub locations_to_come : ℕ → RemainingLocations → List (Result Location Error)
locations_to_come limit r = answers_to_come location_lists limit (location_list r)

-- ---- sections

-- the section of lists up to version 4, or that from version 5 on
abbrev pub section_of_version : Encoding → View → View → View
section_of_version encoding to_4 from_5 = if nat_le encoding.version 4 then to_4 else from_5

-- the two sections of range lists
pub record RangeSections : Type 0 where
  pub debug_ranges : View
  pub debug_rnglists : View

-- the one for a unit's version
abbrev pub range_section : Encoding → RangeSections → View
range_section encoding s = section_of_version encoding s.debug_ranges s.debug_rnglists

-- the two sections of location lists
pub record LocationSections : Type 0 where
  pub debug_loc : View
  pub debug_loclists : View

-- the one for a unit's version
abbrev pub location_section : Encoding → LocationSections → View
location_section encoding s = section_of_version encoding s.debug_loc s.debug_loclists

-- the bytes of a section from an offset on
abbrev pub from_offset : ℕ → View → Result View Error
from_offset offset section = value_of ((skip offset >> here) section)

-- ---- lists at an offset

-- a list from the bytes at its offset, which may be refused
abbrev pub lists_at : {A : Type 0} → (View → A) → Result View Error → Result A Error
lists_at f (Ok v) = Ok (f v)
lists_at f (Err e) = Err e

-- the entries of a range list
abbrev pub raw_ranges_at : Encoding → ℕ → RangeSections → Result RemainingRawRanges Error
raw_ranges_at encoding offset s =
    lists_at (λ bytes. record { encoding = encoding; rest = bytes })
    (from_offset offset (range_section encoding s))

-- the ranges of a range list
abbrev pub ranges_at : Encoding → ℕ → Resolution → RangeSections
    → Result RemainingRanges Error
ranges_at encoding offset against s =
    lists_at
    (λ bytes. record { raw = record { encoding = encoding; rest = bytes }; against = against })
    (from_offset offset (range_section encoding s))

-- what is left of a location list, these bytes; in a split file its entries begin with their kind
-- in every version
abbrev pub location_list_from : Encoding → Bool → View → RemainingRawLocations
location_list_from encoding is_split bytes = record {
  encoding = encoding;
  by_kind = (if is_split then true else nat_lt 4 encoding.version);
  rest = bytes;
}

-- the entries of a location list
abbrev pub raw_locations_at : Encoding → Bool → ℕ → LocationSections
    → Result RemainingRawLocations Error
raw_locations_at encoding is_split offset s =
    lists_at (λ bytes. location_list_from encoding is_split bytes)
    (from_offset offset (location_section encoding s))

-- the locations of a location list
abbrev pub locations_at : Encoding → Bool → ℕ → Resolution → LocationSections
    → Result RemainingLocations Error
locations_at encoding is_split offset against s =
    lists_at
    (λ bytes. record { raw = location_list_from encoding is_split bytes; against = against })
    (from_offset offset (location_section encoding s))

-- ---- offsets of lists

-- a base and an offset from it
abbrev pub offset_from_base : ℕ → ℕ → ℕ → Result ℕ Error
offset_from_base limit base offset =
    if nat_lt (base + offset) (2 ^ 64) then offset_below limit (base + offset)
    else Err OffsetSumOverflow

-- the offset of a list that an index stands for: the section has an offset from the base there
abbrev pub list_offset_at : ℕ → Format → ℕ → ℕ → View → Result ℕ Error
list_offset_at limit format base index section =
    value_of ((lift (table_offset_at limit format base index section)
    >>= λ offset. lift (offset_from_base limit base offset)) section)

-- ---- places

-- the section and the place in it that an identifier names
abbrev pub place_in : ℕ → SectionId → View → Option (SectionId × ℕ)
place_in id section v = option_map (λ place. (section, place)) (index_of id v)

-- in the first of two sections that has it
abbrev pub range_place_of : ℕ → RangeSections → Option (SectionId × ℕ)
range_place_of id s =
    option_or (place_in id DebugRanges s.debug_ranges) (place_in id DebugRngLists s.debug_rnglists)

-- in the first of two sections that has it
abbrev pub location_place_of : ℕ → LocationSections → Option (SectionId × ℕ)
location_place_of id s =
    option_or (place_in id DebugLoc s.debug_loc) (place_in id DebugLocLists s.debug_loclists)

-- ---- headers

-- the fields after a table's length: version 5, the size of an address, no segment selectors, the
-- number of offsets
unfoldable pub header_fields : Format → Parser ListsHeader
header_fields format = do
  version ← fixed 2
  of_5 ← demand (version == 5) (UnknownVersion version)
  size ← address_size
  segment ← fixed 1
  flat ← demand (segment == 0) UnsupportedSegmentSize
  count ← fixed 4
  give (record {
    encoding = record { format = format; version = version; address_size = size };
    offset_entry_count = count;
  })

-- a length n, and a table in the n bytes after it, of which the offsets and lists are left
unfoldable pub lists_header : ℕ → Parser ListsHeader
lists_header limit = do
  table ← initial_length limit
  truncate table.0
  header_fields table.1
