-- The fields of entries are read again.
use Rattle.std.proofs.Common.{◌≡◌, ◌≢◌, ℕ, ◌+◌, ◌<◌, ◌^◌, Bool, false, List, [], ◌∷◌, ◌++◌, length, map, None, Result, Ok, Err, refl, sym, ap, ◌∙◌, arith}
use Rattle.std.specs.Prelude.{◌==◌, All}
use Rattle.std.proofs.lemmas.List.Elements.{All-head, All-tail, All-weaker}
use Rattle.std.proofs.lemmas.List.Folds.{list_any_none}
use Rattle.gimli_lines_header.specs.declared.formats.FileEntryFormat.{FileEntryFormat}
use Rattle.std.proofs.lemmas.Bool.{le-ltb, ne_eqb}
use Rattle.std.proofs.lemmas.List.{length-append, take_at}
use Rattle.gimli_lines_write_rows.specs.Error.{Error}
use Rattle.gimli_lines_write_rows.specs.View.{View}
use Rattle.gimli_lines_write_rows.specs.Parsers.{Parser, give, lift, proceed, null_terminated, ◌>>=◌}
use Rattle.gimli_lines_write_rows.proofs.PrefixReads.{after_is}
use Rattle.gimli_lines_write_rows.specs.Encoding.{Encoding}
use Rattle.gimli_lines_write_rows.specs.Format.{Format}
use Rattle.gimli_lines_write_rows.specs.Format.TheVariants.{Dwarf32, Dwarf64}
use Rattle.gimli_lines_write_rows.specs.FormatSizes.{word_size}
use Rattle.gimli_lines_write_rows.specs.Fixed.{number, number_bytes}
use Rattle.gimli_lines_write_rows.specs.NumberParsers.{fixed}
use Rattle.gimli_lines_write_rows.specs.Spelling.{unsigned_string}
use Rattle.gimli_lines_header.specs.AttributeValues.{RawValue, RawAttribute, string, string_reference, line_string_reference, unsigned_data, data_16}
use Rattle.gimli_lines_header.specs.FormSpellings.{spelling}
use Rattle.gimli_lines_header.specs.AttributeReading.{attribute, final_form, form_within, value, number_value, from_number}
use Rattle.gimli_lines_header.specs.TableEntries.{Field, entry_value, entry_fields}
use Rattle.gimli_lines_write_rows.specs.LineTexts.{IsText}
use Rattle.gimli_lines_write_spec.specs.HeaderTexts.{Text, in_header, of_strings, of_line_strings, form_of, spelled_text, value_of_text, IsReadableText}
use Rattle.gimli_lines_write_spec.specs.EntryFields.{WrittenField, field_format, spelled_fields}
use Rattle.gimli_lines_write_rows.proofs.FollowedReads.{Again, again_nothing, again_onward, again_then, again_same, again_fixed, again_unsigned, null_again, offset_is_below}
use Rattle.gimli_lines_write_rows.specs.BytesAt.{bytes_at, values_at}

-- ---- values

-- the value of an attribute whose name and form aren't asked for
raw_value_step : (form : ℕ) (r : Result (RawValue × View) Error)
    → proceed (proceed r (λ x. give {S = View} (record { name = 0; form = form; value = x })))
    (λ (a : RawAttribute). give a.value) ≡ r
raw_value_step form (Ok r) = refl
raw_value_step form (Err e) = refl

-- a number, and what the form makes of it
number_reads_back : (limit : ℕ) (e : Encoding) (form : ℕ) {is_big : Bool} {first : ℕ} {p : Parser ℕ} {n : ℕ}
    {x : RawValue} {xs : List ℕ}
    → Again is_big first p n xs → number_value limit e 0 form n ≡ Ok x
    → Again is_big first (from_number limit e 0 form p) x xs
number_reads_back limit e form h is =
    again_then (λ n. lift (number_value limit e 0 form n)) h (λ v. ap (λ r. lift r v) is)

-- sixteen bytes as a number
sixteen : (is_big : Bool) (first : ℕ) (md5 : List ℕ) → length md5 ≡ 16
    → Again is_big first (fixed 16) (number is_big md5) md5
unfolding fixed
sixteen is_big first md5 long = record {
  again = λ rest.
      let v = bytes_at is_big first (md5 ++ rest) in
      rw (le-ltb (length (md5 ++ rest)) 16 (omega (arith, length-append md5 rest)), take_at md5 rest 16 long)
      (ap (λ (w : View). Ok (number is_big md5, w)) (after_is v md5 rest 16 refl long)
      ∙ ap (λ n. Ok (number is_big md5, bytes_at is_big (first + n) rest)) (sym long));
}

-- a text and its zero byte
pub ended_again : (is_big : Bool) (first : ℕ) (text : List ℕ) → IsText text
    → Again is_big first null_terminated (bytes_at is_big first text) (text ++ 0 ∷ [])
ended_again is_big first text free =
    null_again is_big first text
    (list_any_none (λ b. b == 0) text
    (All-weaker (λ b. b ≢ 0) (λ b. (b == 0) ≡ false) (λ b h. ne_eqb b 0 h) text free))

module _ (limit : ℕ) (e : Encoding) (is_big : Bool) (first : ℕ) where
  text_value : (text : List ℕ) → IsText text
      → Again is_big first (entry_value limit e 0x08) (string (bytes_at is_big first text)) (text ++ 0 ∷ [])
  unfolding entry_value attribute final_form form_within value spelling
  text_value text free =
      again_same (λ v. raw_value_step 0x08 (value limit e 0 None 0x08 v))
      (again_then (λ t. give (string t)) (ended_again is_big first text free) (λ v. refl))

  offset_value : (offset : ℕ) → offset < limit → offset < 256 ^ word_size e.format
      → Again is_big first (entry_value limit e 0x0e) (string_reference offset)
      (number_bytes is_big (word_size e.format) offset)
  unfolding entry_value attribute final_form form_within value number_value spelling
  offset_value offset low fits =
      again_same (λ v. raw_value_step 0x0e (value limit e 0 None 0x0e v))
      (number_reads_back limit e 0x0e (again_fixed is_big first (word_size e.format) offset fits)
      (by_format e.format refl))
    where
      by_format : (format : Format) → e.format ≡ format → number_value limit e 0 0x0e offset
          ≡ Ok (string_reference offset)
      by_format Dwarf32 is = rw (is, offset_is_below limit offset low) refl
      by_format Dwarf64 is = rw (is, offset_is_below limit offset low) refl

  line_offset_value : (offset : ℕ) → offset < limit → offset < 256 ^ word_size e.format
      → Again is_big first (entry_value limit e 0x1f) (line_string_reference offset)
      (number_bytes is_big (word_size e.format) offset)
  unfolding entry_value attribute final_form form_within value number_value spelling
  line_offset_value offset low fits =
      again_same (λ v. raw_value_step 0x1f (value limit e 0 None 0x1f v))
      (number_reads_back limit e 0x1f (again_fixed is_big first (word_size e.format) offset fits)
      (by_format e.format refl))
    where
      by_format : (format : Format) → e.format ≡ format → number_value limit e 0 0x1f offset
          ≡ Ok (line_string_reference offset)
      by_format Dwarf32 is = rw (is, offset_is_below limit offset low) refl
      by_format Dwarf64 is = rw (is, offset_is_below limit offset low) refl

  pub unsigned_value : (n : ℕ) → n < 2 ^ 64
      → Again is_big first (entry_value limit e 0x0f) (unsigned_data n) (unsigned_string n)
  unfolding entry_value attribute final_form form_within value number_value spelling
  unsigned_value n fits =
      again_same (λ v. raw_value_step 0x0f (value limit e 0 None 0x0f v))
      (number_reads_back limit e 0x0f (again_unsigned is_big first n fits) (by_format e.format refl))
    where
      by_format : (format : Format) → e.format ≡ format → number_value limit e 0 0x0f n ≡ Ok (unsigned_data n)
      by_format Dwarf32 is = rw is refl
      by_format Dwarf64 is = rw is refl

  pub digest_value : (md5 : List ℕ) → length md5 ≡ 16
      → Again is_big first (entry_value limit e 0x1e) (data_16 (number is_big md5)) md5
  unfolding entry_value attribute final_form form_within value spelling
  digest_value md5 long =
      again_same (λ v. raw_value_step 0x1e (value limit e 0 None 0x1e v))
      (again_then (λ n. give (data_16 n)) (sixteen is_big first md5 long) (λ v. refl))

  -- a text
  pub text_again : (t : Text) → IsReadableText limit e.format t
      → Again is_big first (entry_value limit e (form_of t)) (value_of_text is_big first t)
      (spelled_text is_big e.format t)
  text_again (in_header text) well_formed = text_value text well_formed
  text_again (of_strings offset) well_formed = offset_value offset well_formed.0 well_formed.1
  text_again (of_line_strings offset) well_formed = line_offset_value offset well_formed.0 well_formed.1

-- ---- fields

-- each field is read again, wherever it begins
abbrev pub FieldAgain : ℕ → Encoding → Bool → WrittenField → Type 0
FieldAgain limit e is_big f = (first : ℕ) → Again is_big first (entry_value limit e f.form) (f.value first) f.bytes

abbrev pub format_of : WrittenField → FileEntryFormat
format_of f = field_format f.content f.form

abbrev pub field_read : ℕ → WrittenField → Field
field_read first f = record { content = f.content; value = f.value first }

abbrev pub bytes_of : WrittenField → List ℕ
bytes_of f = f.bytes

pub fields_again : (limit : ℕ) (e : Encoding) (is_big : Bool) (first : ℕ) (fs : List WrittenField)
    → All (FieldAgain limit e is_big) fs
    → Again is_big first (entry_fields limit e (map format_of fs)) (values_at bytes_of field_read first fs)
    (spelled_fields fs)
unfolding entry_fields
fields_again limit e is_big first [] good = again_nothing is_big first []
fields_again limit e is_big first (f ∷ fs) good =
    again_onward (λ value. entry_fields limit e (map format_of fs) >>= λ fields.
    give (record { content = f.content; value = value } ∷ fields))
    (All-head (FieldAgain limit e is_big) f fs good first)
    (again_then (λ fields. give (field_read first f ∷ fields))
    (fields_again limit e is_big (first + length f.bytes) fs (All-tail (FieldAgain limit e is_big) f fs good))
    (λ v. refl))
