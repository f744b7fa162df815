-- How many bytes a form's value has, where that depends on the form alone (DWARF 5, 7.5.6).
use Rattle.std.specs.Prelude.{◌≡◌, ◌≤◌, ◌<◌, ℕ, zero, suc, min, ◌+◌, ◌*◌, ◌/◌, ◌%◌, ◌==◌, Bool, Option, Some, None, is_some, option_map, option_and_then, List, [], ◌∷◌, if◌then◌else◌}
use Rattle.std.specs.List.{list_any, prefix_len}
use Rattle.gimli_core_readers.specs.TheConstants.{DW_FORM_flag_present, DW_FORM_implicit_const, DW_FORM_data1, DW_FORM_flag, DW_FORM_ref1, DW_FORM_strx1, DW_FORM_addrx1, DW_FORM_data2, DW_FORM_ref2, DW_FORM_strx2, DW_FORM_addrx2, DW_FORM_strx3, DW_FORM_addrx3, DW_FORM_data4, DW_FORM_ref4, DW_FORM_ref_sup4, DW_FORM_strx4, DW_FORM_addrx4, DW_FORM_data8, DW_FORM_ref8, DW_FORM_ref_sig8, DW_FORM_ref_sup8, DW_FORM_data16, DW_FORM_strp, DW_FORM_sec_offset, DW_FORM_strp_sup, DW_FORM_line_strp, DW_FORM_GNU_ref_alt, DW_FORM_GNU_strp_alt, DW_FORM_addr, DW_FORM_ref_addr}
use Rattle.gimli_core_readers.specs.Encoding.{Encoding}
use Rattle.gimli_core_readers.specs.FormatSizes.{word_size}
use Rattle.gimli_core_abbrev.specs.Declarations.{Attribute}
use Rattle.gimli_core_abbrev.specs.declared.widths.FixedWidths.{FixedWidths}
use Rattle.gimli_core_abbrev.specs.declared.widths.PackedWidths.{PackedWidths}

abbrev pub is_one_of : List ℕ → ℕ → Bool
is_one_of forms form = list_any (λ f. f == form) forms

-- the forms whose values have n bytes
abbrev pub forms_of_0 : List ℕ
forms_of_0 = DW_FORM_flag_present.0 ∷ DW_FORM_implicit_const.0 ∷ []

abbrev pub forms_of_1 : List ℕ
forms_of_1 =
    DW_FORM_data1.0 ∷ DW_FORM_flag.0 ∷ DW_FORM_ref1.0 ∷ DW_FORM_strx1.0 ∷ DW_FORM_addrx1.0 ∷ []

abbrev pub forms_of_2 : List ℕ
forms_of_2 = DW_FORM_data2.0 ∷ DW_FORM_ref2.0 ∷ DW_FORM_strx2.0 ∷ DW_FORM_addrx2.0 ∷ []

abbrev pub forms_of_3 : List ℕ
forms_of_3 = DW_FORM_strx3.0 ∷ DW_FORM_addrx3.0 ∷ []

abbrev pub forms_of_4 : List ℕ
forms_of_4 =
    DW_FORM_data4.0 ∷ DW_FORM_ref4.0 ∷ DW_FORM_ref_sup4.0 ∷ DW_FORM_strx4.0 ∷ DW_FORM_addrx4.0 ∷ []

abbrev pub forms_of_8 : List ℕ
forms_of_8 = DW_FORM_data8.0 ∷ DW_FORM_ref8.0 ∷ DW_FORM_ref_sig8.0 ∷ DW_FORM_ref_sup8.0 ∷ []

abbrev pub forms_of_16 : List ℕ
forms_of_16 = DW_FORM_data16.0 ∷ []

-- the forms whose values are offsets
abbrev pub forms_of_offsets : List ℕ
forms_of_offsets =
    DW_FORM_strp.0 ∷ DW_FORM_sec_offset.0 ∷ DW_FORM_strp_sup.0 ∷ DW_FORM_line_strp.0 ∷
    DW_FORM_GNU_ref_alt.0 ∷ DW_FORM_GNU_strp_alt.0 ∷ []

-- the bytes of a value of ref_addr: those of an address in version 2, else of an offset
abbrev pub ref_addr_width : Encoding → ℕ
ref_addr_width encoding =
    if encoding.version == 2 then encoding.address_size else word_size encoding.format

-- the bytes of a form's value, none where they depend on the value
abbrev pub width_of : Encoding → ℕ → Option ℕ
width_of encoding form =
    if form == DW_FORM_addr.0 then Some encoding.address_size
    else if form == DW_FORM_ref_addr.0 then Some (ref_addr_width encoding)
    else if is_one_of forms_of_offsets form then Some (word_size encoding.format)
    else if is_one_of forms_of_0 form then Some 0
    else if is_one_of forms_of_1 form then Some 1
    else if is_one_of forms_of_2 form then Some 2
    else if is_one_of forms_of_3 form then Some 3
    else if is_one_of forms_of_4 form then Some 4
    else if is_one_of forms_of_8 form then Some 8
    else if is_one_of forms_of_16 form then Some 16
    else None

-- the bytes of an attribute's value
abbrev pub attribute_width : Encoding → Attribute → Option ℕ
attribute_width encoding attribute = width_of encoding attribute.form

-- the bytes of a form's value, none also where they depend on the version of the standard
abbrev pub fixed_width_of : Encoding → ℕ → Option ℕ
fixed_width_of encoding form =
    if form == DW_FORM_ref_addr.0 then None else width_of encoding form

-- ---- several values

-- the sum of the widths of the first n, none where there are fewer or one has no width
unfoldable pub sum_of_first : {A : Type 0} → (A → Option ℕ) → ℕ → List A → Option ℕ
sum_of_first width zero xs = Some 0
sum_of_first width (suc n) [] = None
sum_of_first width (suc n) (x ∷ xs) =
    option_and_then (λ w. option_map (λ rest. w + rest) (sum_of_first width n xs)) (width x)

-- the bytes of plain values, of addresses and of offsets
abbrev pub total_width : Encoding → FixedWidths → ℕ
total_width encoding w =
    w.bytes + w.addresses * encoding.address_size + w.offsets * word_size encoding.format

-- of no attribute
abbrev pub no_widths : FixedWidths
no_widths = record { bytes = 0; addresses = 0; offsets = 0; attributes = 0 }

-- in one number: a byte each, from the low one on
abbrev pub widths_in : PackedWidths → FixedWidths
widths_in p =
    record {
      bytes = p.0 % 256;
      addresses = p.0 / 256 % 256;
      offsets = p.0 / 256 / 256 % 256;
      attributes = p.0 / 256 / 256 / 256 % 256;
    }

-- the first ones, and the second ones count times
abbrev pub sum_of_widths : FixedWidths → ℕ → FixedWidths → FixedWidths
sum_of_widths v count w =
    record {
      bytes = v.bytes + count * w.bytes;
      addresses = v.addresses + count * w.addresses;
      offsets = v.offsets + count * w.offsets;
      attributes = v.attributes + count * w.attributes;
    }

-- each fits in a byte
abbrev pub AreBytes : FixedWidths → Type 0
AreBytes w = (w.bytes < 256) × (w.addresses < 256) × (w.offsets < 256) × (w.attributes < 256)

-- those of one attribute, or of none
abbrev pub IsOfAtMostOne : FixedWidths → Type 0
IsOfAtMostOne w =
    (w.attributes ≤ 1) × (w.bytes ≤ 16 * w.attributes) × (w.addresses ≤ w.attributes)
    × (w.offsets ≤ w.attributes)

-- the bytes of its value, if they are of one
abbrev pub width_of_one : Encoding → FixedWidths → Option ℕ
width_of_one encoding w = if w.attributes == 0 then None else Some (total_width encoding w)

-- how many attributes have these widths
abbrev pub count_of_widths : FixedWidths → ℕ
count_of_widths w = w.attributes

-- the most attributes whose widths are counted: whatever their forms, the sum is below 256
abbrev pub most_counted : ℕ
most_counted = 15

-- how many are counted: those before the first that has no such width, and at most so many
abbrev pub count_of_fixed : Encoding → List Attribute → ℕ
count_of_fixed encoding attributes =
    min most_counted (prefix_len (λ a. is_some (fixed_width_of encoding a.form)) attributes)

-- the widths are those of the first attributes, of as many as are counted
pub record AreWidthsIn (encoding : Encoding) (attributes : List Attribute) (w : FixedWidths)
    : Type 0 where
  pub count : count_of_widths w ≡ count_of_fixed encoding attributes
  pub sum : sum_of_first (attribute_width encoding) (count_of_widths w) attributes
      ≡ Some (total_width encoding w)

-- whatever the encoding
abbrev pub AreWidthsOf : List Attribute → FixedWidths → Type 0
AreWidthsOf attributes w = (encoding : Encoding) → AreWidthsIn encoding attributes w
