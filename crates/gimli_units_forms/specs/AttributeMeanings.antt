-- What an attribute's value means under the attribute's name (DWARF 5, 7.5.4 and 7.5.5), and the
-- plain values inside one.
use Rattle.std.specs.Prelude.{ℕ, ℤ, Result, Ok, Err, pos, negsuc, ◌^◌, ◌==◌, nat_lt, List, [], ◌∷◌, Option, Some, None, option_map, option_and_then, unwrap_or, if◌then◌else◌}
use Rattle.std.specs.Int.{w8, w16, w32, w64, cast_signed}
use Rattle.gimli_core_abbrev.specs.Error.{Error}
use Rattle.gimli_core_abbrev.specs.View.{View}
use Rattle.gimli_core_abbrev.specs.TheConstants.{DW_AT_stmt_list, DW_AT_high_pc, DW_AT_language, DW_AT_ranges, DW_AT_call_column, DW_AT_call_file, DW_AT_call_line, DW_AT_str_offsets_base, DW_AT_addr_base, DW_AT_rnglists_base, DW_AT_loclists_base, DW_AT_GNU_dwo_id, DW_AT_GNU_ranges_base, DW_AT_GNU_addr_base}
use Rattle.gimli_core_abbrev.specs.SectionReads.{string_at}
use Rattle.gimli_units_forms.specs.AttributeValues.{RawValue, block, data_1, data_2, data_4, data_8, signed_data, unsigned_data, expression, section_offset, address_base, line_reference, string, string_reference, location_lists_base, range_lists_reference, range_lists_base, string_offsets_base, language, file_index, dwo_id}

-- a number that isn't negative
abbrev pub natural : ℤ → Option ℕ
natural (pos n) = Some n
natural (negsuc n) = None

-- the unsigned number: data of up to eight bytes, or a LEB128 number that isn't negative
abbrev pub unsigned_of : RawValue → Option ℕ
unsigned_of (data_1 n) = Some n
unsigned_of (data_2 n) = Some n
unsigned_of (data_4 n) = Some n
unsigned_of (data_8 n) = Some n
unsigned_of (unsigned_data n) = Some n
unsigned_of (signed_data n) = natural n
unsigned_of _ = None

-- a number below a bound
abbrev pub if_below : ℕ → Option ℕ → Option ℕ
if_below bound o = option_and_then (λ n. if nat_lt n bound then Some n else None) o

-- the unsigned number, where it fits eight or sixteen bits
abbrev pub unsigned_8_of : RawValue → Option ℕ
unsigned_8_of v = if_below (2 ^ 8) (unsigned_of v)

abbrev pub unsigned_16_of : RawValue → Option ℕ
unsigned_16_of v = if_below (2 ^ 16) (unsigned_of v)

-- a number that fits 63 bits
abbrev pub integer : ℕ → Option ℤ
integer n = if nat_lt n (2 ^ 63) then Some (pos n) else None

-- the signed number: data as two's complement of its own width
abbrev pub signed_of : RawValue → Option ℤ
signed_of (data_1 n) = Some (cast_signed w8 n)
signed_of (data_2 n) = Some (cast_signed w16 n)
signed_of (data_4 n) = Some (cast_signed w32 n)
signed_of (data_8 n) = Some (cast_signed w64 n)
signed_of (signed_data n) = Some n
signed_of (unsigned_data n) = integer n
signed_of _ = None

-- the offset into another section
abbrev pub offset_of : RawValue → Option ℕ
offset_of (section_offset n) = Some n
offset_of _ = None

-- the bytes of an expression, which was a block before version 4 (DWARF 3, 7.5.4)
abbrev pub expression_of : RawValue → Option View
expression_of (expression bytes) = Some bytes
expression_of (block bytes) = Some bytes
expression_of _ = None

-- the text, unless it can't be read
abbrev pub if_readable : Result View Error → Option View
if_readable (Ok text) = Some text
if_readable (Err e) = None

-- The text, in the entry itself or in `.debug_str`, where it can be read (DWARF 5, 7.5.5).
abbrev pub text_of : View → RawValue → Option View
text_of strings (string text) = Some text
text_of strings (string_reference offset) = if_readable (string_at offset strings)
text_of strings _ = None

-- ---- by name

-- what a name makes of a value, if the value fits
abbrev pub Conversion : Type 0
Conversion = RawValue → Option RawValue

-- conversions of offsets and of unsigned numbers
abbrev pub from_offset : (ℕ → RawValue) → Conversion
from_offset kind v = option_map kind (offset_of v)

abbrev pub from_unsigned : (ℕ → RawValue) → Conversion
from_unsigned kind v = option_map kind (unsigned_of v)

abbrev pub from_unsigned_16 : (ℕ → RawValue) → Conversion
from_unsigned_16 kind v = option_map kind (unsigned_16_of v)

-- the conversion in the row of an attribute's name
abbrev pub conversion_in : List (ℕ × Conversion) → ℕ → Conversion
conversion_in [] name v = None
conversion_in (row ∷ rows) name v = if name == row.0 then row.1 v else conversion_in rows name v

-- a row for each name that converts its value
abbrev pub conversions : List (ℕ × Conversion)
conversions =
    (DW_AT_stmt_list.0, from_offset line_reference)
    ∷ (DW_AT_high_pc.0, from_unsigned unsigned_data)
    ∷ (DW_AT_language.0, from_unsigned_16 language)
    ∷ (DW_AT_ranges.0, from_offset range_lists_reference)
    ∷ (DW_AT_call_column.0, from_unsigned unsigned_data)
    ∷ (DW_AT_call_file.0, from_unsigned file_index)
    ∷ (DW_AT_call_line.0, from_unsigned unsigned_data)
    ∷ (DW_AT_str_offsets_base.0, from_offset string_offsets_base)
    ∷ (DW_AT_addr_base.0, from_offset address_base)
    ∷ (DW_AT_rnglists_base.0, from_offset range_lists_base)
    ∷ (DW_AT_loclists_base.0, from_offset location_lists_base)
    ∷ (DW_AT_GNU_dwo_id.0, from_unsigned dwo_id)
    ∷ (DW_AT_GNU_ranges_base.0, from_offset range_lists_base)
    ∷ (DW_AT_GNU_addr_base.0, from_offset address_base)
    ∷ []

-- the value under a name, if it fits
abbrev pub conversion_under : ℕ → RawValue → Option RawValue
conversion_under name v = conversion_in conversions name v

-- The value of an attribute under its name. One that doesn't fit, and one under any other name,
-- stays as the form gives it.
abbrev pub value_under : ℕ → RawValue → RawValue
value_under name v = unwrap_or (conversion_under name v) v
