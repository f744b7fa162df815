-- Reading the value of an attribute: what its form spells, and what that means (DWARF 5, 7.5.5 and
-- 7.5.6).
use Rattle.std.specs.Prelude.{◌≡◌, ◌<◌, ◌^◌, ℕ, ℤ, suc, zero, ◌==◌, ◌||◌, ◌&&◌, not, Bool, true, List, [], ◌∷◌, length, Option, Result, Ok, Err, if◌then◌else◌}
use Rattle.gimli_core_abbrev.specs.TheConstants.{DW_FORM_strp, DW_FORM_ref_addr, DW_FORM_ref1, DW_FORM_ref2, DW_FORM_ref4, DW_FORM_ref8, DW_FORM_ref_udata, DW_FORM_sec_offset, DW_FORM_strx, DW_FORM_addrx, DW_FORM_ref_sup4, DW_FORM_strp_sup, DW_FORM_line_strp, DW_FORM_loclistx, DW_FORM_rnglistx, DW_FORM_ref_sup8, DW_FORM_strx1, DW_FORM_strx2, DW_FORM_strx3, DW_FORM_strx4, DW_FORM_addrx1, DW_FORM_addrx2, DW_FORM_addrx3, DW_FORM_addrx4, DW_FORM_GNU_addr_index, DW_FORM_GNU_str_index, DW_FORM_GNU_ref_alt, DW_FORM_GNU_strp_alt, DW_FORM_addr, DW_FORM_data2, DW_FORM_data4, DW_FORM_data8, DW_FORM_data1, DW_FORM_flag, DW_FORM_udata, DW_FORM_flag_present, DW_FORM_ref_sig8, DW_FORM_indirect, DW_FORM_exprloc}
use Rattle.gimli_core_abbrev.specs.Error.{Error}
use Rattle.gimli_core_abbrev.specs.Error.TheVariants.{InvalidImplicitConst, UnknownForm}
use Rattle.gimli_core_abbrev.specs.View.{View}
use Rattle.gimli_core_abbrev.specs.Parsers.{Parser, ◌>>=◌, give, fail, lift, part, branch, map_value, null_terminated, some_or}
use Rattle.gimli_core_abbrev.specs.TheConstants.{DW_AT_stmt_list, DW_AT_ranges}
use Rattle.gimli_core_abbrev.specs.Encoding.{Encoding}
use Rattle.gimli_core_abbrev.specs.Format.{Format}
use Rattle.gimli_core_abbrev.specs.Format.TheVariants.{Dwarf32, Dwarf64}
use Rattle.gimli_core_abbrev.specs.Declarations.{Attribute}
use Rattle.gimli_core_abbrev.specs.NumberParsers.{fixed, unsigned, unsigned_16, signed, address as address_of_size, offset_below}
use Rattle.gimli_units_forms.specs.declared.spelling.Spelling.{Spelling}
use Rattle.gimli_units_forms.specs.declared.spelling.Spelling.TheVariants.{Address, Fixed, Sixteen, Block, LongBlock, Unsigned, Signed, Text, Indirect, Constant, Unknown}
use Rattle.gimli_units_forms.specs.FormSpellings.{spelling}
use Rattle.gimli_units_forms.specs.AttributeValues.{RawValue, RawAttribute, address, block, data_1, data_2, data_4, data_8, data_16, signed_data, unsigned_data, expression, flag, section_offset, address_index, unit_reference, info_reference, info_reference_sup, location_lists_index, range_lists_index, type_reference, string_reference, string_reference_sup, string_offsets_index, line_string_reference, string}

-- ---- what a number means

-- what a form makes of a number; offsets must be below a limit
abbrev pub Meaning : Type 0
Meaning = ℕ → ℕ → Result RawValue Error

-- the number itself, as a value of a kind
abbrev pub plain_number : (ℕ → RawValue) → Meaning
plain_number kind limit n = Ok (kind n)

-- an offset or an index
abbrev pub offset_or_fault : (ℕ → RawValue) → Result ℕ Error → Result RawValue Error
offset_or_fault kind (Ok n) = Ok (kind n)
offset_or_fault kind (Err e) = Err e

abbrev pub offset : (ℕ → RawValue) → Meaning
offset kind limit n = offset_or_fault kind (offset_below limit n)

-- the meaning in the row of a form
abbrev pub meaning_in : List (ℕ × Meaning) → ℕ → Meaning
meaning_in [] form limit n = Err (UnknownForm (record { 0 = form }))
meaning_in (row ∷ rows) form limit n =
    if form == row.0 then row.1 limit n else meaning_in rows form limit n

-- the forms of offsets and indexes
abbrev pub offset_meanings : List (ℕ × Meaning)
offset_meanings =
    (DW_FORM_strp.0, offset string_reference)
    ∷ (DW_FORM_ref_addr.0, offset info_reference)
    ∷ (DW_FORM_ref1.0, offset unit_reference)
    ∷ (DW_FORM_ref2.0, offset unit_reference)
    ∷ (DW_FORM_ref4.0, offset unit_reference)
    ∷ (DW_FORM_ref8.0, offset unit_reference)
    ∷ (DW_FORM_ref_udata.0, offset unit_reference)
    ∷ (DW_FORM_sec_offset.0, offset section_offset)
    ∷ (DW_FORM_strx.0, offset string_offsets_index)
    ∷ (DW_FORM_addrx.0, offset address_index)
    ∷ (DW_FORM_ref_sup4.0, offset info_reference_sup)
    ∷ (DW_FORM_strp_sup.0, offset string_reference_sup)
    ∷ (DW_FORM_line_strp.0, offset line_string_reference)
    ∷ (DW_FORM_loclistx.0, offset location_lists_index)
    ∷ (DW_FORM_rnglistx.0, offset range_lists_index)
    ∷ (DW_FORM_ref_sup8.0, offset info_reference_sup)
    ∷ (DW_FORM_strx1.0, offset string_offsets_index)
    ∷ (DW_FORM_strx2.0, offset string_offsets_index)
    ∷ (DW_FORM_strx3.0, offset string_offsets_index)
    ∷ (DW_FORM_strx4.0, offset string_offsets_index)
    ∷ (DW_FORM_addrx1.0, offset address_index)
    ∷ (DW_FORM_addrx2.0, offset address_index)
    ∷ (DW_FORM_addrx3.0, offset address_index)
    ∷ (DW_FORM_addrx4.0, offset address_index)
    ∷ (DW_FORM_GNU_addr_index.0, offset address_index)
    ∷ (DW_FORM_GNU_str_index.0, offset string_offsets_index)
    ∷ (DW_FORM_GNU_ref_alt.0, offset info_reference_sup)
    ∷ (DW_FORM_GNU_strp_alt.0, offset string_reference_sup)
    ∷ []

-- the forms of all numbers
abbrev pub meanings : List (ℕ × Meaning)
meanings =
    (DW_FORM_addr.0, plain_number address)
    ∷ (DW_FORM_data2.0, plain_number data_2)
    ∷ (DW_FORM_data4.0, plain_number data_4)
    ∷ (DW_FORM_data8.0, plain_number data_8)
    ∷ (DW_FORM_data1.0, plain_number data_1)
    ∷ (DW_FORM_flag.0, plain_number (λ n. flag (not (n == 0))))
    ∷ (DW_FORM_udata.0, plain_number unsigned_data)
    ∷ (DW_FORM_flag_present.0, plain_number (λ n. flag true))
    ∷ (DW_FORM_ref_sig8.0, plain_number type_reference)
    ∷ offset_meanings

-- a number that fits a width of one, two or four bytes
pub record FitsWidth (width n : ℕ) : Type 0 where
  pub one : width ≡ 1 → n < 2 ^ 8
  pub two : width ≡ 2 → n < 2 ^ 16
  pub four : width ≡ 4 → n < 2 ^ 32

-- a number that a spelling may give
abbrev pub FitsSpelling : Spelling → ℕ → Type 0
FitsSpelling (Fixed width) n = FitsWidth width n
FitsSpelling _ n = Unit {0}

-- Before version 4 offsets into other sections were spelled as data (DWARF 3, 7.5.4): data of an
-- offset's width is one under stmt_list and ranges, in every version, and under no other name.
abbrev pub data_of_word : Format → ℕ
data_of_word Dwarf32 = DW_FORM_data4.0
data_of_word Dwarf64 = DW_FORM_data8.0

abbrev pub is_offset_data : Encoding → ℕ → ℕ → Bool
is_offset_data e name form =
    form == data_of_word e.format && (name == DW_AT_stmt_list.0 || name == DW_AT_ranges.0)

-- the value of an attribute, where its form spells a number
unfoldable pub number_value : ℕ → Encoding → ℕ → ℕ → ℕ → Result RawValue Error
number_value limit e name form n =
    if is_offset_data e name form then offset section_offset limit n
    else meaning_in meanings form limit n

-- ---- what the bytes spell

-- The form of a value: after indirect, forms are read until one isn't indirect. Each takes a byte,
-- so there are no more of them than bytes.
unfoldable pub form_within : ℕ → ℕ → Parser ℕ
form_within zero form = give form
form_within (suc more) form =
    branch (form == DW_FORM_indirect.0) (unsigned_16 >>= form_within more) (give form)

-- the first form from here on that isn't indirect
unfoldable pub final_form : ℕ → Parser ℕ
final_form form v = form_within (suc (length v.bytes)) form v

-- a length n, and the n bytes after it
unfoldable pub bytes_by_length : ℕ → Parser ℕ → Parser View
bytes_by_length limit length_field = do
  n ← length_field
  o ← lift (offset_below limit n)
  part o

-- bytes are an expression where the form says so
abbrev pub bytes_value : ℕ → View → RawValue
bytes_value form bytes = if form == DW_FORM_exprloc.0 then expression bytes else block bytes

-- the value of an attribute from a number
abbrev pub from_number : ℕ → Encoding → ℕ → ℕ → Parser ℕ → Parser RawValue
from_number limit e name form number = number >>= λ n. lift (number_value limit e name form n)

-- The value of an attribute under a name, of a form that isn't indirect, by what the form spells.
-- The declaration may have a constant.
abbrev pub spelled_value : ℕ → Encoding → ℕ → ℕ → Option ℤ → Spelling
    → Parser RawValue
spelled_value limit e name form constant Address =
    from_number limit e name form (address_of_size e.address_size)
spelled_value limit e name form constant (Fixed width) = from_number limit e name form (fixed width)
spelled_value limit e name form constant Sixteen = map_value data_16 (fixed 16)
spelled_value limit e name form constant (Block width) =
    map_value (bytes_value form) (bytes_by_length limit (fixed width))
spelled_value limit e name form constant LongBlock =
    map_value (bytes_value form) (bytes_by_length limit unsigned)
spelled_value limit e name form constant Unsigned = from_number limit e name form unsigned
spelled_value limit e name form constant Signed = map_value signed_data signed
spelled_value limit e name form constant Text = map_value string null_terminated
spelled_value limit e name form constant Constant =
    map_value signed_data (some_or InvalidImplicitConst constant)
spelled_value limit e name form constant Indirect = fail (UnknownForm (record { 0 = form }))
spelled_value limit e name form constant Unknown = fail (UnknownForm (record { 0 = form }))

-- the same, by the form
unfoldable pub value : ℕ → Encoding → ℕ → Option ℤ → ℕ → Parser RawValue
value limit e name constant form = spelled_value limit e name form constant (spelling e form)

-- the value that a declaration describes, in a form that isn't indirect
abbrev pub value_in_form : ℕ → Encoding → Attribute → ℕ → Parser RawValue
value_in_form limit e s form = value limit e s.name s.implicit_const form

-- an attribute by its parts
abbrev pub raw_attribute : ℕ → ℕ → RawValue → RawAttribute
raw_attribute name form x = record { name = name; form = form; value = x }

-- the attribute that a declaration describes, in such a form
abbrev pub attribute_in_form : ℕ → Encoding → Attribute → ℕ → Parser RawAttribute
attribute_in_form limit e s form =
    map_value (raw_attribute s.name form) (value_in_form limit e s form)

-- the attribute that a declaration describes
unfoldable pub attribute : ℕ → Encoding → Attribute → Parser RawAttribute
attribute limit e s = do
  form ← final_form s.form
  attribute_in_form limit e s form

-- the attributes of several declarations, one after the other
unfoldable pub attributes : ℕ → Encoding → List Attribute → Parser (List RawAttribute)
attributes limit e [] = give []
attributes limit e (s ∷ ss) = do
  a ← attribute limit e s
  rest ← attributes limit e ss
  give (a ∷ rest)
