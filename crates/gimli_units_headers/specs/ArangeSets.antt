-- Address ranges (DWARF 5, 6.1.2 and 7.21): sets end to end, each a header and pairs of an address
-- and a length.
use Rattle.std.specs.Prelude.{◌≡◌, ℕ, ◌+◌, ◌-◌, ◌*◌, ◌^◌, ◌%◌, ◌==◌, ◌&&◌, ◌||◌, nat_lt, List, [], ◌∷◌, ◌++◌, length, Option, Some, None, Result, Ok, Err, if◌then◌else◌}
use Rattle.std.specs.List.{All, filter_map}
use Rattle.gimli_core_base.specs.declared.error.Error.{Error}
use Rattle.gimli_core_base.specs.declared.error.Error.TheVariants.{UnknownVersion, UnsupportedSegmentSize, AddressOverflow}
use Rattle.gimli_core_base.specs.View.{View, after, bytes_left}
use Rattle.gimli_core_base.specs.Parsers.{Parser, ◌>>=◌, give, demand, here, skip, proceed}
use Rattle.gimli_core_base.specs.Repetition.{Listing, listing_in}
use Rattle.gimli_core_base.specs.declared.common.Format.{Format}
use Rattle.gimli_core_base.specs.declared.common.Encoding.{Encoding}
use Rattle.gimli_core_base.specs.FormatSizes.{initial_length_size, word_size}
use Rattle.gimli_core_base.specs.NumberParsers.{fixed, word, address_size}
use Rattle.gimli_core_readers.specs.Addresses.{is_tombstone}
use Rattle.gimli_core_readers.specs.Tiling.{RemainingSection, whole_section, next_part, parts_to_come}
use Rattle.gimli_units_headers.specs.SectionParts.{counted_part, part_lookup}

-- ---- sets

-- a set: its offset in the section, what its header says, and the bytes of its pairs
pub record ArangeSet : Type 0 where
  pub offset : ℕ
  pub length : ℕ
  pub encoding : Encoding
  pub info_offset : ℕ
  pub pairs : View

-- the bytes of the header before the padding: length, version, offset of the unit, address size,
-- segment selector size
abbrev pub arange_header_size : Format → ℕ
arange_header_size format = initial_length_size format + 2 + word_size format + 1 + 1

-- The first pair is at a multiple of a pair's size, counted from the start of the set.
abbrev pub arange_padding : Format → ℕ → ℕ
arange_padding format size = (2 * size - arange_header_size format % (2 * size)) % (2 * size)

-- what a header says after its length
pub record ArangeFields : Type 0 where
  pub encoding : Encoding
  pub info_offset : ℕ

-- the fields after the length, and the padding
unfoldable pub arange_fields : ℕ → Format → Parser ArangeFields
arange_fields limit format = do
  version ← fixed 2
  of_2 ← demand (version == 2) (UnknownVersion version)
  info_offset ← word limit format
  size ← address_size
  segment ← fixed 1
  flat ← demand (segment == 0) UnsupportedSegmentSize
  padding ← skip (arange_padding format size)
  give (record {
    encoding = record { address_size = size; format = format; version = version };
    info_offset = info_offset;
  })

-- the fields of a set, and the pairs after them
unfoldable pub arange_set_in : ℕ → ℕ → ℕ → Format → Parser ArangeSet
arange_set_in limit offset set_length format = do
  fields ← arange_fields limit format
  pairs ← here
  give (record {
    offset = offset;
    length = set_length;
    encoding = fields.encoding;
    info_offset = fields.info_offset;
    pairs = pairs;
  })

-- the set that begins at an offset: a length n, and a set in the n bytes after it
abbrev pub arange_set : ℕ → ℕ → Parser ArangeSet
arange_set limit = counted_part limit (arange_set_in limit)

-- the bytes of a set, its length field included
abbrev pub set_size : ArangeSet → ℕ
set_size s = initial_length_size s.encoding.format + s.length

-- the next set, none at the section's end
abbrev pub next_set : ℕ → RemainingSection → Result (Option ArangeSet × View) Error
next_set limit s = next_part (arange_set limit) s

-- the sets from there on, and what ends them: the section's end, or the first fault
abbrev pub sets_to_come : ℕ → RemainingSection → Listing View ArangeSet
sets_to_come limit s = parts_to_come (arange_set limit) s

-- the sets of a section
abbrev pub sets_of : ℕ → View → List ArangeSet
sets_of limit section = (sets_to_come limit (whole_section section)).items

-- the set at an offset of a section
abbrev pub arange_set_at : ℕ → ℕ → View → Result ArangeSet Error
arange_set_at limit offset section = part_lookup (arange_set limit) offset section

-- ---- pairs

-- an address and a length
pub record ArangePair : Type 0 where
  pub address : ℕ
  pub length : ℕ

-- what is left of a set from one of its pairs on
pub record RemainingPairs : Type 0 where
  pub address_size : ℕ
  pub rest : View

-- pairs of an address size, before the first of them
abbrev pub remaining_pairs : ℕ → View → RemainingPairs
remaining_pairs size pairs = record { address_size = size; rest = pairs }

-- all pairs of a set
abbrev pub pairs_of : ArangeSet → RemainingPairs
pairs_of s = remaining_pairs s.encoding.address_size s.pairs

-- the pair here
unfoldable pub pair : ℕ → Parser ArangePair
pair size = do
  address ← fixed size
  length ← fixed size
  give (record { address = address; length = length })

-- the next pair; a rest that is shorter than a pair ends the set
unfoldable pub next_pair : ℕ → Parser (Option ArangePair)
next_pair size v =
    if nat_lt (bytes_left v) (2 * size) then Ok (None, v)
    else proceed (pair size v) (λ p. give (Some p))

-- The pair 0, 0 and one at a tombstone are skipped; a pair whose end doesn't fit the address size
-- is refused.
abbrev pub arange_of : ℕ → ArangePair → Result (Option ArangePair) Error
arange_of size p =
    if (p.address == 0 && p.length == 0) || is_tombstone size p.address then Ok None
    else (
    if nat_lt (p.address + p.length) (2 ^ (8 * size)) then Ok (Some p)
    else Err AddressOverflow
    )

-- an answer, unless the pair is skipped
abbrev pub transpose : Result (Option ArangePair) Error → Option (Result ArangePair Error)
transpose (Ok None) = None
transpose (Ok (Some p)) = Some (Ok p)
transpose (Err e) = Some (Err e)

-- the pairs of a set from one of them on, in order
abbrev pub pairs_to_come : RemainingPairs → List ArangePair
pairs_to_come s = (listing_in bytes_left (next_pair s.address_size) s.rest).items

-- the entries from there on, refused ones in their places
abbrev pub aranges_to_come : RemainingPairs → List (Result ArangePair Error)
aranges_to_come s = filter_map (λ p. transpose (arange_of s.address_size p)) (pairs_to_come s)

-- From the old place in a set to the new one, all pairs are skipped.
abbrev pub SkipsPairs : ℕ → List ArangePair → List ArangePair → Type 0
SkipsPairs size old new =
    (skips : List ArangePair) × (old ≡ skips ++ new)
    × All (λ p. arange_of size p ≡ Ok None) skips

-- The pair that a call answers about is the first that isn't skipped, and the pairs after it are
-- left.
abbrev pub Consumes : ℕ → Result (Option ArangePair) Error
    → List ArangePair → List ArangePair → Type 0
Consumes size (Ok None) old new = SkipsPairs size old [] × (new ≡ [])
Consumes size (Ok (Some x)) old new =
    (p : ArangePair) × SkipsPairs size old (p ∷ new) × (arange_of size p ≡ Ok (Some x))
Consumes size (Err e) old new =
    (p : ArangePair) × SkipsPairs size old (p ∷ new) × (arange_of size p ≡ Err e)

-- The bytes that are gone are those of the pairs that are gone, and no others: a rest that is
-- shorter than a pair stays.
pub record TakesPairs (old new : RemainingPairs) : Type 0 where
  pub count : ℕ
  pub pairs : length (pairs_to_come old) ≡ count + length (pairs_to_come new)
  pub rest : new.rest ≡ after (count * (2 * old.address_size)) old.rest

-- the end of a pair's addresses, modulo 2 ^ 64: exact where it fits the address size
abbrev pub pair_end : ArangePair → ℕ
pair_end p = (p.address + p.length) % 2 ^ 64
