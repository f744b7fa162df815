-- Entries as contracts see them: their indexes as numbers, their expressions as bytes.
use Rattle.std.specs.Prelude.{ℕ}
use Rattle.gimli_core_readers.specs.View.{View}
use Rattle.gimli_units_lists.specs.declared.range_entry.RawRngListEntry.{RawRngListEntry}
use Rattle.gimli_units_lists.specs.declared.range_entry.RawRngListEntry.TheVariants.{AddressOrOffsetPair, BaseAddress, BaseAddressx, StartxEndx, StartxLength, OffsetPair, StartEnd, StartLength}
use Rattle.gimli_units_lists.specs.declared.location_entry.RawLocListEntry.{RawLocListEntry}
use Rattle.gimli_units_lists.specs.declared.location_entry.RawLocListEntry.TheVariants as location_entry
use Rattle.gimli_units_lists.specs.declared.location_entry.Parts.{Parts}
use Rattle.gimli_units_lists.specs.declared.location_entry.Parts.TheVariants.{Base, Bounded, Default}
use Rattle.gimli_units_lists.specs.declared.locations.LocationListEntry.{LocationListEntry}
use Rattle.gimli_units_lists.specs.LocationEntries.{RawLocation, base, bounded_location, default_location, Location}
use Rattle.gimli_units_lists.specs.ListEntries.{RawEntry, address_or_offset_pair, base_address, base_addressx, startx_endx, startx_length, offset_pair, start_end, start_length}

-- an entry of a range list, whose indexes count as these numbers
abbrev pub raw_entry : {T : Type 0} → (T → ℕ) → RawRngListEntry T → RawEntry
raw_entry count (AddressOrOffsetPair begin end) = address_or_offset_pair begin end
raw_entry count (BaseAddress addr) = base_address addr
raw_entry count (BaseAddressx addr) = base_addressx (count addr.0)
raw_entry count (StartxEndx begin end) = startx_endx (count begin.0) (count end.0)
raw_entry count (StartxLength begin length) = startx_length (count begin.0) length
raw_entry count (OffsetPair begin end) = offset_pair begin end
raw_entry count (StartEnd begin end) = start_end begin end
raw_entry count (StartLength begin length) = start_length begin length

-- an entry of a location list, whose readers and offsets are seen by these functions
abbrev pub raw_location : {R E O : Type 0} → (R → View) → (O → ℕ)
    → RawLocListEntry R E O → RawLocation
raw_location view count (location_entry.AddressOrOffsetPair begin end x) =
    bounded_location (address_or_offset_pair begin end) (view x.0)
raw_location view count (location_entry.BaseAddress addr) = base (base_address addr)
raw_location view count (location_entry.BaseAddressx addr) = base (base_addressx (count addr.0))
raw_location view count (location_entry.StartxEndx begin end x) =
    bounded_location (startx_endx (count begin.0) (count end.0)) (view x.0)
raw_location view count (location_entry.StartxLength begin length x) =
    bounded_location (startx_length (count begin.0) length) (view x.0)
raw_location view count (location_entry.OffsetPair begin end x) =
    bounded_location (offset_pair begin end) (view x.0)
raw_location view count (location_entry.DefaultLocation x) = default_location (view x.0)
raw_location view count (location_entry.StartEnd begin end x) =
    bounded_location (start_end begin end) (view x.0)
raw_location view count (location_entry.StartLength begin length x) =
    bounded_location (start_length begin length) (view x.0)

-- the same by its parts
abbrev pub raw_parts : {R E O : Type 0} → (R → View) → (O → ℕ) → Parts R E O
    → RawLocation
raw_parts view count (Base e) = base (raw_entry count e)
raw_parts view count (Bounded e x) = bounded_location (raw_entry count e) (view x.0)
raw_parts view count (Default x) = default_location (view x.0)

-- a location, whose reader is seen by this function
abbrev pub location : {R E O : Type 0} → (R → View) → LocationListEntry R E O → Location
location view l = record { range = l.range; expression = view l.expression.0 }
