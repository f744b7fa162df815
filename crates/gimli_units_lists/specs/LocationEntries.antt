-- Location lists as bytes: `.debug_loc` up to version 4 (DWARF 4, 2.6.2), `.debug_loclists` from 5
-- on (DWARF 5, 2.6.2 and 7.7.3).
use Rattle.std.specs.Prelude.{ℕ, ◌-◌, ◌^◌, ◌==◌, nat_le, Bool, List, Option, Some, None, Result, Ok, Err}
use Rattle.gimli_core_readers.specs.TheConstants.{DW_LLE_end_of_list, DW_LLE_base_addressx, DW_LLE_startx_endx, DW_LLE_startx_length, DW_LLE_offset_pair, DW_LLE_default_location, DW_LLE_base_address, DW_LLE_start_end, DW_LLE_start_length}
use Rattle.gimli_core_readers.specs.Error.{Error}
use Rattle.gimli_core_readers.specs.Error.TheVariants.{UnknownLocListsEntry}
use Rattle.gimli_core_readers.specs.View.{View}
use Rattle.gimli_core_readers.specs.Parsers.{Parser, ◌>>=◌, give, fail, branch, lift, part}
use Rattle.gimli_core_readers.specs.Encoding.{Encoding}
use Rattle.gimli_core_readers.specs.NumberParsers.{fixed, unsigned, address, offset_below}
use Rattle.gimli_core_readers.specs.declared.range.Range.{Range}
use Rattle.gimli_units_lists.specs.ListEntries.{RawEntry, base_address, base_addressx, startx_endx, startx_length, offset_pair, start_end, start_length, Setting, base_in, range_of}
use Rattle.gimli_units_lists.specs.ListEntryFields.{both, index, indexes, offsets, addresses, address_and_length}
use Rattle.gimli_units_lists.specs.RangeEntries.{pair_entry}
use Rattle.gimli_units_lists.specs.Lists.{ListKind, entries_from}

-- One entry as its list has it: a base, a range with an expression, or the expression of all other
-- addresses.
pub data RawLocation : Type 0 where
  base : (entry : RawEntry) → RawLocation
  bounded_location : (entry : RawEntry) (expression : View) → RawLocation
  default_location : (expression : View) → RawLocation

-- a range and the bytes of its expression
pub record Location : Type 0 where
  pub range : Range
  pub expression : View

-- ---- expressions

-- The length of an expression: LEB128 from version 5 on, two bytes before it, in split files too.
abbrev pub expression_length : ℕ → Encoding → Parser ℕ
expression_length limit encoding =
    branch (nat_le encoding.version 4) (fixed 2) (unsigned >>= λ n. lift (offset_below limit n))

-- a length n, and the n bytes after it
unfoldable pub expression : ℕ → Encoding → Parser View
expression limit encoding = expression_length limit encoding >>= part

-- ---- pairs

-- A pair's expression follows it, unless it is a base or the end.
abbrev pub pair_location : ℕ → Encoding → Option RawEntry → Parser (Option RawLocation)
pair_location limit encoding None = give None
pair_location limit encoding (Some (base_address addr)) = give (Some (base (base_address addr)))
pair_location limit encoding (Some e) =
    expression limit encoding >>= λ x. give (Some (bounded_location e x))

-- an entry of `.debug_loc`
unfoldable pub location_pair : ℕ → Encoding → Parser (Option RawLocation)
location_pair limit encoding =
    addresses encoding.address_size
    >>= λ p. pair_location limit encoding (pair_entry encoding.address_size p.0 p.1)

-- ---- entries by kind

-- a base of one field
abbrev pub base_of_field : (ℕ → RawEntry) → Parser ℕ → Parser (Option RawLocation)
base_of_field entry p = p >>= λ x. give (Some (base (entry x)))

-- a range of two fields, and its expression
abbrev pub bounded_location_of_fields : (ℕ → ℕ → RawEntry) → Parser (ℕ × ℕ)
    → Parser View → Parser (Option RawLocation)
bounded_location_of_fields entry p x =
    p >>= λ n. (x >>= λ e. give (Some (bounded_location (entry n.0 n.1) e)))

-- The length after an index: LEB128 from version 5 on, four bytes in split files before it.
abbrev pub indexed_length : Encoding → Parser ℕ
indexed_length encoding = branch (nat_le encoding.version 4) (fixed 4) unsigned

-- an index and a length
unfoldable pub index_and_length : ℕ → Encoding → Parser (ℕ × ℕ)
index_and_length limit encoding = both (index limit) (indexed_length encoding)

-- the entry of a kind (DWARF 5, 7.7.3)
abbrev pub location_of_kind : ℕ → Encoding → ℕ → Parser (Option RawLocation)
location_of_kind limit encoding kind =
    branch (kind == DW_LLE_end_of_list.0) (give None)
    (branch (kind == DW_LLE_base_addressx.0) (base_of_field base_addressx (index limit))
    (branch (kind == DW_LLE_startx_endx.0)
    (bounded_location_of_fields startx_endx (indexes limit) (expression limit encoding))
    (branch (kind == DW_LLE_startx_length.0)
    (bounded_location_of_fields startx_length (index_and_length limit encoding)
    (expression limit encoding))
    (branch (kind == DW_LLE_offset_pair.0)
    (bounded_location_of_fields offset_pair offsets (expression limit encoding))
    (branch (kind == DW_LLE_default_location.0)
    (expression limit encoding >>= λ x. give (Some (default_location x)))
    (branch (kind == DW_LLE_base_address.0)
    (base_of_field base_address (address encoding.address_size))
    (branch (kind == DW_LLE_start_end.0)
    (bounded_location_of_fields start_end (addresses encoding.address_size)
    (expression limit encoding))
    (branch (kind == DW_LLE_start_length.0)
    (bounded_location_of_fields start_length (address_and_length encoding.address_size)
    (expression limit encoding))
    (fail (UnknownLocListsEntry (record { 0 = kind })))))))))))

-- an entry that begins with its kind
unfoldable pub location_kind : ℕ → Encoding → Parser (Option RawLocation)
location_kind limit encoding = fixed 1 >>= location_of_kind limit encoding

-- ---- lists

-- The entry here, in a list of a version. In split files the entries of every version begin with
-- their kind.
unfoldable pub location_entry : ℕ → Encoding → Bool → Parser (Option RawLocation)
location_entry limit encoding by_kind =
    branch by_kind (location_kind limit encoding) (location_pair limit encoding)

-- what an iterator over the entries of a location list has left
pub record RemainingRawLocations : Type 0 where
  pub encoding : Encoding
  pub by_kind : Bool
  pub rest : View

-- what the iterator answers from here on: the entries up to the list's end, or to the first fault
abbrev pub raw_locations_to_come : ℕ → RemainingRawLocations → List (Result RawLocation Error)
raw_locations_to_come limit r = entries_from (location_entry limit r.encoding r.by_kind) r.rest

-- ---- what the entries stand for

-- the base that an entry sets, unless it is refused
abbrev pub location_base_in : Setting → RawLocation → Option ℕ
location_base_in s (base e) = base_in s e
location_base_in s (bounded_location e x) = None
location_base_in s (default_location x) = None

-- the range with its expression
abbrev pub with_expression : View → Result (Option Range) Error → Result (Option Location) Error
with_expression x (Ok None) = Ok None
with_expression x (Ok (Some r)) = Ok (Some (record { range = r; expression = x }))
with_expression x (Err e) = Err e

-- no location for a base, unless it is refused
abbrev pub without_expression : Result (Option Range) Error → Result (Option Location) Error
without_expression (Ok _) = Ok None
without_expression (Err e) = Err e

-- The location of an entry at a base; none for a base, and where the range isn't valid. The default
-- one holds from 0 to 2^64 - 1.
abbrev pub location_of : Setting → ℕ → RawLocation → Result (Option Location) Error
location_of s b (base e) = without_expression (range_of s b e)
location_of s b (bounded_location e x) = with_expression x (range_of s b e)
location_of s b (default_location x) =
    Ok (Some (record { range = record { begin = 0; end = 2 ^ 64 - 1 }; expression = x }))

-- location lists
abbrev pub location_lists : ListKind (Encoding × Bool) RawLocation Location
location_lists = record {
  entry = λ limit how. location_entry limit how.0 how.1;
  base_in = location_base_in;
  answer_of = location_of;
}
