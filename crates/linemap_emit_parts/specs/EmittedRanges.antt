-- Range lists as they are written (DWARF 4, 2.17.3; DWARF 5, 7.25): absolute addresses, in every
-- version.
use Rattle.std.specs.Prelude.{ℕ, ◌+◌, ◌<◌, ◌^◌, ◌*◌, nat_le, Bool, List, [], ◌∷◌, ◌++◌, flat_map, length, if◌then◌else◌}
use Rattle.gimli_lines_write_bytes.specs.TheConstants.{DW_RLE_end_of_list, DW_RLE_start_end}
use Rattle.gimli_lines_write_bytes.specs.Encoding.{Encoding}
use Rattle.gimli_lines_write_bytes.specs.FormatSizes.{initial_length_size}
use Rattle.gimli_lines_write_bytes.specs.Fixed.{number_bytes}
use Rattle.gimli_lines_write_bytes.specs.NumberBytes.{spelled_length}
use Rattle.gimli_units_lists.specs.Addresses.{least_tombstone}
use Rattle.gimli_units_lists.specs.Range.{Range}

-- a pair of addresses
abbrev pub spelled_pair : ℕ → Bool → ℕ → ℕ → List ℕ
spelled_pair size is_big begin end = number_bytes is_big size begin ++ number_bytes is_big size end

-- up to version 4 a range is a pair relative to the base, which is 0; from version 5 on it is a
-- kind, a begin and an end
abbrev pub spelled_range : Encoding → Bool → Range → List ℕ
spelled_range e is_big r =
    if nat_le e.version 4 then spelled_pair e.address_size is_big r.begin r.end
    else DW_RLE_start_end.0 ∷ spelled_pair e.address_size is_big r.begin r.end

-- what ends a list
abbrev pub spelled_end : Encoding → Bool → List ℕ
spelled_end e is_big =
    if nat_le e.version 4 then spelled_pair e.address_size is_big 0 0 else DW_RLE_end_of_list.0 ∷ []

-- a list
abbrev pub spelled_ranges : Encoding → Bool → List Range → List ℕ
spelled_ranges e is_big rs = flat_map (spelled_range e is_big) rs ++ spelled_end e is_big

-- from version 5 on a header comes before the lists of a section (DWARF 5, 7.28): a length, the
-- version, the sizes of an address and of a segment selector, and the number of offsets, none of
-- which is there
abbrev pub spelled_lists_header : Encoding → Bool → ℕ → List ℕ
spelled_lists_header e is_big size =
    if nat_le e.version 4 then []
    else spelled_length e.format is_big (8 + size)
    ++ (number_bytes is_big 2 e.version ++ (e.address_size ∷ 0 ∷ number_bytes is_big 4 0))

-- where the lists begin
abbrev pub lists_start : Encoding → ℕ
lists_start e = if nat_le e.version 4 then 0 else initial_length_size e.format + 8

-- the section of lists
abbrev pub spelled_lists : Encoding → Bool → List ℕ → List ℕ
spelled_lists e is_big lists = spelled_lists_header e is_big (length lists) ++ lists

-- a range that can be written: it doesn't begin at 0, isn't empty, and begins below the tombstones
pub record IsWritable (size : ℕ) (r : Range) : Type 0 where
  pub not_from_0 : 0 < r.begin
  pub not_empty : r.begin < r.end
  pub begins_low : r.begin < least_tombstone size
  pub ends_low : r.end < 2 ^ (8 * size)

abbrev pub AllWritable : ℕ → List Range → Type 0
AllWritable size [] = Unit {0}
AllWritable size (r ∷ rs) = IsWritable size r × AllWritable size rs
