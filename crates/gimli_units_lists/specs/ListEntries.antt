-- The entries of range lists and location lists, and the ranges that they stand for (DWARF 5, 2.6.2
-- and 2.17.3).
use Rattle.std.specs.Prelude.{ℕ, ◌+◌, ◌<◌, ◌&&◌, nat_lt, Option, Some, None, Result, Ok, Err, if◌then◌else◌}
use Rattle.gimli_core_readers.specs.Error.{Error}
use Rattle.gimli_core_readers.specs.View.{View}
use Rattle.gimli_core_readers.specs.Results.{and_then, ◌>>=◌}
use Rattle.gimli_core_readers.specs.SectionReads.{address_at}
use Rattle.gimli_core_readers.specs.declared.range.Range.{Range}
use Rattle.gimli_core_readers.specs.Addresses.{least_tombstone, is_tombstone, wrap}

-- one entry as its list has it
pub data RawEntry : Type 0 where
  address_or_offset_pair : (begin end : ℕ) → RawEntry
  base_address : (addr : ℕ) → RawEntry
  base_addressx : (addr : ℕ) → RawEntry
  startx_endx : (begin end : ℕ) → RawEntry
  startx_length : (begin length : ℕ) → RawEntry
  offset_pair : (begin end : ℕ) → RawEntry
  start_end : (begin end : ℕ) → RawEntry
  start_length : (begin length : ℕ) → RawEntry

-- What the entries of a list depend on: the size of an address, and the addresses that indexes
-- stand for, from a base on.
pub record Setting : Type 0 where
  pub address_size : ℕ
  pub addresses : View
  pub addr_base : ℕ

-- the address of an index, or its fault
abbrev pub address_of_index : Setting → ℕ → Result ℕ Error
address_of_index s index = address_at s.address_size s.addr_base index s.addresses

-- ---- bases

-- the address, if it isn't refused
abbrev pub if_address : Result ℕ Error → Option ℕ
if_address (Ok a) = Some a
if_address (Err e) = None

-- the base that an entry sets, unless it is refused
abbrev pub base_in : Setting → RawEntry → Option ℕ
base_in s (base_address addr) = Some addr
base_in s (base_addressx i) = if_address (address_of_index s i)
base_in s _ = None

-- ---- ranges

-- a valid range begins before it ends, and below the least tombstone
pub record IsValidRange (size : ℕ) (r : Range) : Type 0 where
  pub begins_before_its_end : r.begin < r.end
  pub begins_below_tombstones : r.begin < least_tombstone size

-- a range, if it is valid
abbrev pub valid_range : ℕ → ℕ → ℕ → Option Range
valid_range size begin end =
    if nat_lt begin end && nat_lt begin (least_tombstone size) then
    Some (record { begin = begin; end = end })
    else None

-- a range relative to a base; none where the base is a tombstone
abbrev pub relative_range : ℕ → ℕ → ℕ → ℕ → Option Range
relative_range size base begin end =
    if is_tombstone size base then None
    else valid_range size (wrap size (base + begin)) (wrap size (base + end))

-- a range by its begin and its length
abbrev pub range_of_length : ℕ → ℕ → ℕ → Option Range
range_of_length size begin length = valid_range size begin (wrap size (begin + length))

-- the range of an entry at a base; none for a base, and where the range isn't valid
abbrev pub range_of : Setting → ℕ → RawEntry → Result (Option Range) Error
range_of s base (address_or_offset_pair begin end) =
    Ok (relative_range s.address_size base begin end)
range_of s base (base_address addr) = Ok None
range_of s base (base_addressx i) = and_then (address_of_index s i) (λ _. Ok None)
range_of s base (startx_endx i j) = do
  begin ← address_of_index s i
  end ← address_of_index s j
  Ok (valid_range s.address_size begin end)
range_of s base (startx_length i length) = do
  begin ← address_of_index s i
  Ok (range_of_length s.address_size begin length)
range_of s base (offset_pair begin end) = Ok (relative_range s.address_size base begin end)
range_of s base (start_end begin end) = Ok (valid_range s.address_size begin end)
range_of s base (start_length begin length) = Ok (range_of_length s.address_size begin length)
