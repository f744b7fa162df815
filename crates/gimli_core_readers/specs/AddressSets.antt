-- The address sets of `.debug_addr` (DWARF 5, 7.27).
use Rattle.std.specs.Prelude.{ℕ, ◌+◌, ◌==◌, Option, Result}
use Rattle.gimli_core_base.specs.declared.error.Error.{Error}
use Rattle.gimli_core_base.specs.declared.error.Error.TheVariants.{UnknownVersion, UnsupportedSegmentSize}
use Rattle.gimli_core_base.specs.View.{View, bytes_left}
use Rattle.gimli_core_base.specs.Parsers.{Parser, ◌>>=◌, give, demand, here, part, within}
use Rattle.gimli_core_base.specs.Repetition.{Listing, listing_in, until_end}
use Rattle.gimli_core_base.specs.declared.common.Encoding.{Encoding}
use Rattle.gimli_core_base.specs.declared.common.Format.{Format}
use Rattle.gimli_core_base.specs.FormatSizes.{initial_length_size}
use Rattle.gimli_core_base.specs.NumberParsers.{fixed, initial_length, address_size, address}
use Rattle.gimli_core_readers.specs.Tiling.{RemainingSection, next_part, parts_to_come}

-- A set: the offset of its first byte in the section, the length that it begins with, and its
-- addresses.
pub record AddressSet : Type 0 where
  pub offset : ℕ
  pub length : ℕ
  pub encoding : Encoding
  pub addresses : View

-- after a set's length: version 5, the size of an address, no segment selectors
unfoldable pub set_encoding : Format → Parser Encoding
set_encoding format = do
  version ← fixed 2
  of_5 ← demand (version == 5) (UnknownVersion version)
  size ← address_size
  segment ← fixed 1
  flat ← demand (segment == 0) UnsupportedSegmentSize
  give (record { format = format; version = version; address_size = size })

-- a set after its length: the fields, and the addresses up to its end
abbrev pub set_fields : ℕ → ℕ → Format → Parser AddressSet
set_fields offset length format = do
  encoding ← set_encoding format
  addresses ← here
  give (record { offset = offset; length = length; encoding = encoding; addresses = addresses })

-- the set that begins at an offset: a length n, and a set in the n bytes after it
unfoldable pub address_set : ℕ → ℕ → Parser AddressSet
address_set limit offset = do
  l ← initial_length limit
  bytes ← part l.0
  within bytes (set_fields offset l.0 l.1)

-- the bytes of a set
abbrev pub set_size : AddressSet → ℕ
set_size set = initial_length_size set.encoding.format + set.length

-- the next set, if any bytes are left
abbrev pub next_set : ℕ → RemainingSection → Result (Option AddressSet × View) Error
next_set limit s = next_part (address_set limit) s

-- all that are left, and what ends them: the section's end, or the first fault
abbrev pub sets_to_come : ℕ → RemainingSection → Listing View AddressSet
sets_to_come limit s = parts_to_come (address_set limit) s

-- the addresses that an iterator has left of a set
pub record RemainingAddresses : Type 0 where
  pub address_size : ℕ
  pub rest : View

-- addresses of a size, before the first of them
abbrev pub addresses_in : ℕ → View → RemainingAddresses
addresses_in size addresses = record { address_size = size; rest = addresses }

-- all addresses of a set
abbrev pub all_addresses : AddressSet → RemainingAddresses
all_addresses set = addresses_in set.encoding.address_size set.addresses

-- the next address, if any bytes are left
abbrev pub next_address : RemainingAddresses → Result (Option ℕ × View) Error
next_address addresses = until_end (address addresses.address_size) addresses.rest

-- all that are left, and what ends them: the set's end, or the first fault
abbrev pub addresses_to_come : RemainingAddresses → Listing View ℕ
addresses_to_come addresses =
    listing_in bytes_left (until_end (address addresses.address_size)) addresses.rest
