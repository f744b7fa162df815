-- The bytes of a value are read as what it means.
use Rattle.std.proofs.Common.{◌≡◌, ℕ, ◌<◌, ◌+◌, Bool, true, false, eqb, List, ◌++◌, length, None, Result, Ok, refl, ap, ◌∙◌}
use Rattle.std.specs.Prelude.{◌==◌, ◌||◌, nat_le}
use Rattle.gimli_lines_write_bytes.specs.Error.{Error}
use Rattle.gimli_lines_write_bytes.specs.View.{View}
use Rattle.gimli_lines_write_bytes.specs.Parsers.{Parser, proceed, give, lift}
use Rattle.gimli_lines_write_bytes.specs.Encoding.{Encoding}
use Rattle.gimli_lines_write_bytes.specs.Format.{Format}
use Rattle.gimli_lines_write_bytes.specs.Format.TheVariants.{Dwarf32, Dwarf64}
use Rattle.gimli_lines_write_bytes.specs.FormatSizes.{word_size}
use Rattle.gimli_lines_write_bytes.specs.NumberParsers.{fixed, unsigned, offset_below, address as address_of_size, is_address_size}
use Rattle.gimli_lines_write_bytes.specs.Fixed.{number_bytes}
use Rattle.gimli_lines_write_bytes.specs.Spelling.{unsigned_string}
use Rattle.gimli_lines_header.specs.FormSpellings.{spelling}
use Rattle.gimli_lines_header.specs.AttributeReading.{attribute, final_form, form_within, value, number_value, from_number, offset_or_fault, data_of_word}
use Rattle.gimli_lines_header.specs.AttributeValues.{RawValue, string_reference, section_offset, address, unsigned_data, unit_reference}
use Rattle.linemap_emit_parts.specs.EmittedEntries.{EmittedValue, strp, sec_offset, addr, udata, ref4, form_of, offset_form, spelled_value, raw_value_of, Fits}
use Rattle.gimli_lines_write_bytes.proofs.FollowedReads.{Again, again_fixed, again_unsigned, offset_is_below}
use Rattle.gimli_lines_write_bytes.specs.BytesAt.{bytes_at}

-- a form that isn't indirect is the form of its value
form_is : (form : ℕ) (v : View) → eqb form 0x16 ≡ false → final_form form v ≡ Ok (form, v)
unfolding final_form form_within
form_is form v other = rw other refl

-- an attribute whose form spells a number
number_again : (limit : ℕ) (e : Encoding) (is_big : Bool) (first name form n : ℕ) (number : Parser ℕ) (x : RawValue)
    (xs : List ℕ) → eqb form 0x16 ≡ false
    → ((v : View) → value limit e name None form v ≡ from_number limit e name form number v)
    → Again is_big first number n xs → number_value limit e name form n ≡ Ok x
    → Again is_big first (attribute limit e (record { name = name; form = form; implicit_const = None }))
    (record { name = name; form = form; value = x }) xs
unfolding attribute
number_again limit e is_big first name form n number x xs other spells h means = record {
  again = λ rest.
      let v = bytes_at is_big first (xs ++ rest) in
      let w = bytes_at is_big (first + length xs) rest in
      ap (λ (r : Result (ℕ × View) Error). proceed r
      (λ f. λ u. proceed (value limit e name None f u) (λ y. give (record { name = name; form = f; value = y }))))
      (form_is form v other)
      ∙ ap (λ (r : Result (RawValue × View) Error). proceed r
      (λ y. give (record { name = name; form = form; value = y }))) (spells v)
      ∙ ap (λ (r : Result (ℕ × View) Error). proceed (proceed r (λ m. lift (number_value limit e name form m)))
      (λ y. give (record { name = name; form = form; value = y }))) (h.again rest)
      ∙ ap (λ (r : Result RawValue Error). proceed (lift r w)
      (λ y. give (record { name = name; form = form; value = y }))) means;
}

-- an answer that is an offset below the limit
offset_is : (limit n : ℕ) (kind : ℕ → RawValue) → n < limit → offset_or_fault kind (offset_below limit n) ≡ Ok (kind n)
offset_is limit n kind small = ap (offset_or_fault kind) (offset_is_below limit n small)

-- an encoding in a format
abbrev in_format : Encoding → Format → Encoding
in_format e format = record { address_size = e.address_size; format = format; version = e.version }

-- what numbers mean under the forms that are written
text_means : (limit : ℕ) (e : Encoding) (name n : ℕ) (format : Format) → n < limit
    → number_value limit (in_format e format) name 0x0e n ≡ Ok (string_reference n)
unfolding number_value
text_means limit e name n Dwarf32 small = offset_is limit n string_reference small
text_means limit e name n Dwarf64 small = offset_is limit n string_reference small

address_means : (limit : ℕ) (e : Encoding) (name n : ℕ) (format : Format)
    → number_value limit (in_format e format) name 0x01 n ≡ Ok (address n)
unfolding number_value
address_means limit e name n Dwarf32 = refl
address_means limit e name n Dwarf64 = refl

number_means : (limit : ℕ) (e : Encoding) (name n : ℕ) (format : Format)
    → number_value limit (in_format e format) name 0x0f n ≡ Ok (unsigned_data n)
unfolding number_value
number_means limit e name n Dwarf32 = refl
number_means limit e name n Dwarf64 = refl

reference_means : (limit : ℕ) (e : Encoding) (name n : ℕ) (format : Format) → n < limit
    → number_value limit (in_format e format) name 0x13 n ≡ Ok (unit_reference n)
unfolding number_value
reference_means limit e name n Dwarf32 small = offset_is limit n unit_reference small
reference_means limit e name n Dwarf64 small = offset_is limit n unit_reference small

offset_means : (limit : ℕ) (e : Encoding) (name n : ℕ) (format : Format) → n < limit
    → number_value limit (in_format e format) name 0x17 n ≡ Ok (section_offset n)
unfolding number_value
offset_means limit e name n Dwarf32 small = offset_is limit n section_offset small
offset_means limit e name n Dwarf64 small = offset_is limit n section_offset small

-- data of an offset's width, under a name that takes offsets
data_means : (limit : ℕ) (e : Encoding) (name n : ℕ) (format : Format) → (name == 0x10 || name == 0x55) ≡ true
    → n < limit → number_value limit (in_format e format) name (data_of_word format) n ≡ Ok (section_offset n)
unfolding number_value
data_means limit e name n Dwarf32 named small = rw named (offset_is limit n section_offset small)
data_means limit e name n Dwarf64 named small = rw named (offset_is limit n section_offset small)

data_spells : (limit : ℕ) (e : Encoding) (name : ℕ) (format : Format) (v : View)
    → value limit (in_format e format) name None (data_of_word format) v
    ≡ from_number limit (in_format e format) name (data_of_word format) (fixed (word_size format)) v
unfolding value spelling
data_spells limit e name Dwarf32 v = refl
data_spells limit e name Dwarf64 v = refl

data_is_data : (format : Format) → eqb (data_of_word format) 0x16 ≡ false
data_is_data Dwarf32 = refl
data_is_data Dwarf64 = refl

-- the value of an attribute is read, under a name that takes offsets where it is one
pub value_again : (limit : ℕ) (e : Encoding) (is_big : Bool) (first name : ℕ) (x : EmittedValue)
    → is_address_size e.address_size ≡ true → Fits limit e name x
    → Again is_big first (attribute limit e (record { name = name; form = form_of e x; implicit_const = None }))
    (record { name = name; form = form_of e x; value = raw_value_of x }) (spelled_value e is_big x)
unfolding value spelling address_of_size
value_again limit e is_big first name (strp n) is_size fits =
    number_again limit e is_big first name 0x0e n (fixed (word_size e.format)) (string_reference n)
    (number_bytes is_big (word_size e.format) n) refl (λ v. refl)
    (again_fixed is_big first (word_size e.format) n fits.0) (text_means limit e name n e.format fits.1)
value_again limit e is_big first name (addr n) is_size fits =
    number_again limit e is_big first name 0x01 n (address_of_size e.address_size) (address n)
    (number_bytes is_big e.address_size n) refl (λ v. refl)
    (record { again = λ rest. rw is_size ((again_fixed is_big first e.address_size n fits).again rest) })
    (address_means limit e name n e.format)
value_again limit e is_big first name (udata n) is_size fits =
    number_again limit e is_big first name 0x0f n unsigned (unsigned_data n) (unsigned_string n) refl (λ v. refl)
    (again_unsigned is_big first n fits) (number_means limit e name n e.format)
value_again limit e is_big first name (ref4 n) is_size fits =
    number_again limit e is_big first name 0x13 n (fixed 4) (unit_reference n) (number_bytes is_big 4 n) refl
    (λ v. refl)
    (again_fixed is_big first 4 n fits.0) (reference_means limit e name n e.format fits.1)
value_again limit e is_big first name (sec_offset n) is_size fits = by_version (nat_le e.version 3) refl
  where
    by_version : (b : Bool) → nat_le e.version 3 ≡ b
        → Again is_big first (attribute limit e (record { name = name; form = offset_form e; implicit_const = None }))
        (record { name = name; form = offset_form e; value = section_offset n })
        (number_bytes is_big (word_size e.format) n)
    by_version false later = rw later
        (number_again limit e is_big first name 0x17 n (fixed (word_size e.format)) (section_offset n)
        (number_bytes is_big (word_size e.format) n) refl (λ v. refl)
        (again_fixed is_big first (word_size e.format) n fits.0) (offset_means limit e name n e.format fits.1))
    by_version true earlier = rw earlier
        (number_again limit e is_big first name (data_of_word e.format) n (fixed (word_size e.format))
        (section_offset n)
        (number_bytes is_big (word_size e.format) n) (data_is_data e.format) (data_spells limit e name e.format)
        (again_fixed is_big first (word_size e.format) n fits.0) (data_means limit e name n e.format fits.2 fits.1))
