-- Range lists as bytes: `.debug_ranges` up to version 4 (DWARF 4, 2.17.3), `.debug_rnglists` from 5
-- on (DWARF 5, 2.17.3 and 7.25).
use Rattle.std.specs.Prelude.{ℕ, ◌==◌, ◌&&◌, nat_le, List, Option, Some, None, Result, if◌then◌else◌}
use Rattle.gimli_core_readers.specs.TheConstants.{DW_RLE_end_of_list, DW_RLE_base_addressx, DW_RLE_startx_endx, DW_RLE_startx_length, DW_RLE_offset_pair, DW_RLE_base_address, DW_RLE_start_end, DW_RLE_start_length}
use Rattle.gimli_core_readers.specs.Error.{Error}
use Rattle.gimli_core_readers.specs.Error.TheVariants.{UnknownRangeListsEntry}
use Rattle.gimli_core_readers.specs.View.{View}
use Rattle.gimli_core_readers.specs.Parsers.{Parser, ◌>>=◌, give, fail, branch}
use Rattle.gimli_core_readers.specs.Encoding.{Encoding}
use Rattle.gimli_core_readers.specs.NumberParsers.{fixed, unsigned, address}
use Rattle.gimli_core_readers.specs.Addresses.{greatest_address}
use Rattle.gimli_core_readers.specs.declared.range.Range.{Range}
use Rattle.gimli_units_lists.specs.ListEntries.{RawEntry, address_or_offset_pair, base_address, base_addressx, startx_endx, startx_length, offset_pair, start_end, start_length, base_in, range_of}
use Rattle.gimli_units_lists.specs.Lists.{ListKind, entries_from}
use Rattle.gimli_units_lists.specs.ListEntryFields.{both, index, indexes, offsets, addresses, address_and_length}

-- ---- pairs

-- What a pair of addresses is: 0, 0 the end; after the greatest address a base; else a range
-- relative to the base.
abbrev pub pair_entry : ℕ → ℕ → ℕ → Option RawEntry
pair_entry size begin end =
    if begin == 0 && end == 0 then None
    else (
    if begin == greatest_address size then Some (base_address end)
    else Some (address_or_offset_pair begin end)
    )

-- an entry of `.debug_ranges`
unfoldable pub range_pair : ℕ → Parser (Option RawEntry)
range_pair size = addresses size >>= λ p. give (pair_entry size p.0 p.1)

-- ---- entries by kind

-- an entry of one field
abbrev pub entry_of_field : (ℕ → RawEntry) → Parser ℕ → Parser (Option RawEntry)
entry_of_field entry p = p >>= λ x. give (Some (entry x))

-- an entry of two fields
abbrev pub entry_of_fields : (ℕ → ℕ → RawEntry) → Parser (ℕ × ℕ)
    → Parser (Option RawEntry)
entry_of_fields entry p = p >>= λ x. give (Some (entry x.0 x.1))

-- the entry of a kind (DWARF 5, 7.25)
abbrev pub range_of_kind : ℕ → ℕ → ℕ → Parser (Option RawEntry)
range_of_kind limit size kind =
    branch (kind == DW_RLE_end_of_list.0) (give None)
    (branch (kind == DW_RLE_base_addressx.0) (entry_of_field base_addressx (index limit))
    (branch (kind == DW_RLE_startx_endx.0) (entry_of_fields startx_endx (indexes limit))
    (branch (kind == DW_RLE_startx_length.0)
    (entry_of_fields startx_length (both (index limit) unsigned))
    (branch (kind == DW_RLE_offset_pair.0) (entry_of_fields offset_pair offsets)
    (branch (kind == DW_RLE_base_address.0) (entry_of_field base_address (address size))
    (branch (kind == DW_RLE_start_end.0) (entry_of_fields start_end (addresses size))
    (branch (kind == DW_RLE_start_length.0) (entry_of_fields start_length (address_and_length size))
    (fail (UnknownRangeListsEntry (record { 0 = kind }))))))))))

-- an entry that begins with its kind
unfoldable pub range_kind : ℕ → ℕ → Parser (Option RawEntry)
range_kind limit size = fixed 1 >>= range_of_kind limit size

-- ---- lists

-- the entry here, in a list of a version
unfoldable pub range_entry : ℕ → Encoding → Parser (Option RawEntry)
range_entry limit encoding =
    branch (nat_le encoding.version 4) (range_pair encoding.address_size)
    (range_kind limit encoding.address_size)

-- what an iterator over the entries of a range list has left
pub record RemainingRawRanges : Type 0 where
  pub encoding : Encoding
  pub rest : View

-- range lists
abbrev pub range_lists : ListKind Encoding RawEntry Range
range_lists = record { entry = range_entry; base_in = base_in; answer_of = range_of }

-- what the iterator answers from here on: the entries up to the list's end, or to the first fault
abbrev pub raw_ranges_to_come : ℕ → RemainingRawRanges → List (Result RawEntry Error)
raw_ranges_to_come limit r = entries_from (range_entry limit r.encoding) r.rest
