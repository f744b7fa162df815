-- Directories and files of version 5 are read again.
use Rattle.std.proofs.Common.{◌≡◌, ℕ, ◌+◌, Bool, true, false, List, [], ◌∷◌, ◌++◌, length, map, Some, None, Result, Ok, refl, ap, subst, ◌∙◌, arith}
use Rattle.std.specs.Prelude.{flat_map, All, if◌then◌else◌}
use Rattle.std.proofs.lemmas.List.{length-append, append-nil}
use Rattle.std.proofs.lemmas.List.Elements.{All-nil, All-cons, All-append}
use Rattle.gimli_lines_write_rows.specs.Error.{Error}
use Rattle.gimli_lines_write_rows.specs.View.{View}
use Rattle.gimli_lines_write_rows.specs.Parsers.{give, proceed}
use Rattle.gimli_lines_write_rows.specs.Encoding.{Encoding}
use Rattle.gimli_lines_write_rows.specs.Format.{Format}
use Rattle.gimli_lines_write_rows.specs.Fixed.{number, number_bytes}
use Rattle.gimli_lines_header.specs.declared.formats.FileEntryFormat.{FileEntryFormat}
use Rattle.gimli_lines_header.specs.LineFiles.{no_md5, path_content, directory_content, timestamp_content, size_content, source_content}
use Rattle.gimli_lines_header.specs.TableEntries.{Field, EntryFacts, no_facts, facts_after, entry, entry_fields, directory_entry, file_entry}
use Rattle.gimli_lines_write_spec.specs.HeaderTexts.{Text, form_of, spelled_text, value_of_text, IsReadableText}
use Rattle.gimli_lines_write_rows.specs.RowPieces.{when}
use Rattle.gimli_lines_write_spec.specs.EntryFields.{WrittenFile, WrittenField, Details, text_field, number_field, digest_field, leading_fields, file_fields, spelled_fields, spelled_file, directory_formats, file_formats, file_facts, IsReadableFile}
use Rattle.gimli_lines_write_rows.proofs.FollowedReads.{Again, again_then}
use Rattle.gimli_lines_write_spec.proofs.Digests.{digest_again}
use Rattle.gimli_lines_write_spec.proofs.FieldsAgain.{FieldAgain, format_of, field_read, bytes_of, fields_again, text_again, unsigned_value, digest_value}
use Rattle.gimli_lines_write_rows.specs.BytesAt.{bytes_at, values_at}

-- ---- what fields say

facts_after_fields : (is_big : Bool) (facts : EntryFacts) (xs ys : List Field) → facts_after is_big facts (xs ++ ys)
    ≡ facts_after is_big (facts_after is_big facts xs) ys
facts_after_fields is_big facts [] ys = refl
facts_after_fields is_big facts (x ∷ xs) ys = facts_after_fields is_big (facts_after is_big facts (x ∷ [])) xs ys

values_after : {T A : Type 0} (string : T → List ℕ) (value : ℕ → T → A) (first : ℕ) (xs ys : List T)
    → values_at string value first (xs ++ ys) ≡ values_at string value first xs
    ++ values_at string value (first + length (flat_map string xs)) ys
values_after string value first [] ys =
    let same : first ≡ first + 0 = omega arith in ap (λ (n : ℕ). values_at string value n ys) same
values_after string value first (x ∷ xs) ys =
    let long : first + length (string x) + length (flat_map string xs)
    ≡ first + length (string x ++ flat_map string xs) =
    omega (arith, length-append (string x) (flat_map string xs)) in
    ap (λ l. value first x ∷ l) (values_after string value (first + length (string x)) xs ys)
    ∙ ap (λ (n : ℕ). value first x ∷ (values_at string value (first + length (string x)) xs
    ++ values_at string value n ys)) long

abbrev with_details : Bool → Bool → Bool → Bool → Details
with_details a b c d = record { has_timestamp = a; has_size = b; has_md5 = c; has_source = d }

module _ (is_big : Bool) (format : Format) (first : ℕ) (f : WrittenFile) where
  -- what the fields before the source say
  abbrev front_facts : Details → List ℕ → EntryFacts
  front_facts d md5 = record {
    path = Some (value_of_text is_big first f.path);
    directory_index = f.directory;
    timestamp = if d.has_timestamp then f.timestamp else 0;
    size = if d.has_size then f.size else 0;
    md5 = if d.has_md5 then md5 else no_md5;
    source = None;
  }

  abbrev front_read : Details → List Field
  front_read d = values_at bytes_of field_read first (leading_fields is_big format d f)

  front_said : (d : Details) → facts_after is_big no_facts (front_read d)
      ≡ front_facts d (number_bytes is_big 16 (number is_big f.md5))
  front_said d = by d.has_timestamp d.has_size d.has_md5
    where
      by : (a b c : Bool) → facts_after is_big no_facts (front_read (with_details a b c d.has_source))
          ≡ front_facts (with_details a b c d.has_source) (number_bytes is_big 16 (number is_big f.md5))
      by true true true = refl
      by true true false = refl
      by true false true = refl
      by true false false = refl
      by false true true = refl
      by false true false = refl
      by false false true = refl
      by false false false = refl

  -- what all fields say
  abbrev all_facts : Details → EntryFacts
  all_facts d = record (front_facts d f.md5) {
    source = if d.has_source then Some (value_of_text is_big
        (first + length (spelled_fields (leading_fields is_big format d f))) f.source) else None;
  }

  all_said : (d : Details) → number_bytes is_big 16 (number is_big f.md5) ≡ f.md5
      → facts_after is_big no_facts (values_at bytes_of field_read first (file_fields is_big format d f)) ≡ all_facts d
  all_said d same =
      let at = first + length (spelled_fields (leading_fields is_big format d f)) in
      let source = when d.has_source (text_field is_big format source_content f.source) in
      ap (facts_after is_big no_facts) (values_after bytes_of field_read first (leading_fields is_big format d f)
      source)
      ∙ facts_after_fields is_big no_facts (front_read d) (values_at bytes_of field_read at source)
      ∙ ap (λ (facts : EntryFacts). facts_after is_big facts (values_at bytes_of field_read at source))
      (front_said d ∙ ap (front_facts d) same)
      ∙ by d.has_source
    where
      by : (b : Bool) → facts_after is_big (front_facts d f.md5)
          (values_at bytes_of field_read (first + length (spelled_fields (leading_fields is_big format d f)))
          (when b (text_field is_big format source_content f.source)))
          ≡ record (front_facts d f.md5) {
            source =
                if b then Some (value_of_text is_big
                (first + length (spelled_fields (leading_fields is_big format d f)))
                f.source) else None;
          }
      by true = refl
      by false = refl

-- ---- a file

fields_stand : (limit : ℕ) (e : Encoding) (is_big : Bool) (d : Details) (f : WrittenFile)
    → IsReadableFile limit e.format f → All (FieldAgain limit e is_big) (file_fields is_big e.format d f)
fields_stand limit e is_big d f well_formed =
    let path = text_field is_big e.format path_content f.path in
    let directory = number_field directory_content f.directory in
    let timestamp = number_field timestamp_content f.timestamp in
    let size = number_field size_content f.size in
    let digest = digest_field is_big f.md5 in
    let source = text_field is_big e.format source_content f.source in
    let Good = FieldAgain limit e is_big in
    let sizes = when d.has_size size ++ when d.has_md5 digest in
    let with_details = when d.has_timestamp timestamp ++ sizes in
    All-append Good (path ∷ directory ∷ with_details) (when d.has_source source)
    (All-cons Good path (directory ∷ with_details) (λ n. text_again limit e is_big n f.path well_formed.path)
    (All-cons Good directory with_details (λ n. unsigned_value limit e is_big n f.directory well_formed.directory)
    (All-append Good (when d.has_timestamp timestamp) sizes
    (all_when d.has_timestamp timestamp (λ n. unsigned_value limit e is_big n f.timestamp well_formed.timestamp))
    (All-append Good (when d.has_size size) (when d.has_md5 digest)
    (all_when d.has_size size (λ n. unsigned_value limit e is_big n f.size well_formed.size))
    (all_when d.has_md5 digest (λ n. digest_value limit e is_big n f.md5 well_formed.md5.0))))))
    (all_when d.has_source source (λ n. text_again limit e is_big n f.source well_formed.source))
  where
    all_when : (b : Bool) (x : WrittenField) → FieldAgain limit e is_big x → All (FieldAgain limit e is_big) (when b x)
    all_when true x is = All-cons (FieldAgain limit e is_big) x [] is (All-nil (FieldAgain limit e is_big))
    all_when false x is = All-nil (FieldAgain limit e is_big)

abbrev formats_for : Bool → Format → Details → WrittenFile → List FileEntryFormat
formats_for is_big format d f = map format_of (file_fields is_big format d f)

-- the fields have the formats that come before the entries
formats_are : (is_big : Bool) (format : Format) (d : Details) (f : WrittenFile) → formats_for is_big format d f
    ≡ file_formats d (form_of f.path) (form_of f.source)
formats_are is_big format d f = by d.has_timestamp d.has_size d.has_md5 d.has_source
  where
    by : (a b c s : Bool) → formats_for is_big format (with_details a b c s) f
        ≡ file_formats (with_details a b c s) (form_of f.path) (form_of f.source)
    by true true true true = refl
    by true true true false = refl
    by true true false true = refl
    by true true false false = refl
    by true false true true = refl
    by true false true false = refl
    by true false false true = refl
    by true false false false = refl
    by false true true true = refl
    by false true true false = refl
    by false true false true = refl
    by false true false false = refl
    by false false true true = refl
    by false false true false = refl
    by false false false true = refl
    by false false false false = refl

-- the fields that are read, and what they say
entry_again : (limit : ℕ) (e : Encoding) (is_big : Bool) (first : ℕ) (formats : List FileEntryFormat)
    (facts : EntryFacts) (read : List Field) (xs : List ℕ)
    → Again is_big first (entry_fields limit e formats) read xs → facts_after is_big no_facts read ≡ facts
    → Again is_big first (entry limit e formats) facts xs
unfolding entry
entry_again limit e is_big first formats facts read xs h is = record {
  again = λ rest.
      ap (λ (r : Result (List Field × View) Error). proceed r (λ fields. give (facts_after is_big no_facts fields)))
      (h.again rest)
      ∙ ap (λ (x : EntryFacts). Ok (x, bytes_at is_big (first + length xs) rest)) is;
}

pub file_again : (limit : ℕ) (e : Encoding) (is_big : Bool) (d : Details) (path_form source_form first : ℕ)
    (f : WrittenFile) → IsReadableFile limit e.format f → form_of f.path ≡ path_form → form_of f.source ≡ source_form
    → Again is_big first (file_entry limit e (file_formats d path_form source_form))
    (file_facts is_big e.format d first f) (spelled_file is_big e.format d f)
unfolding file_entry
file_again limit e is_big d path_form source_form first f well_formed path source =
    subst (λ formats. Again is_big first (file_entry limit e formats) (file_facts is_big e.format d first f)
    (spelled_file is_big e.format d f))
    (formats_are is_big e.format d f ∙ ap (λ n. file_formats d n (form_of f.source)) path
    ∙ ap (λ n. file_formats d path_form n) source)
    (again_then _ (entry_again limit e is_big first (formats_for is_big e.format d f)
    (all_facts is_big e.format first f d) (values_at bytes_of field_read first (file_fields is_big e.format d f))
    (spelled_file is_big e.format d f)
    (fields_again limit e is_big first (file_fields is_big e.format d f) (fields_stand limit e is_big d f well_formed))
    (all_said is_big e.format first f d (digest_again is_big f.md5 well_formed.md5))) (λ v. refl))

-- ---- a directory

abbrev path_field : Bool → Format → Text → WrittenField
path_field is_big format t = text_field is_big format path_content t

pub directory_again : (limit : ℕ) (e : Encoding) (is_big : Bool) (form first : ℕ) (t : Text)
    → IsReadableText limit e.format t → form_of t ≡ form
    → Again is_big first (directory_entry limit e (directory_formats form)) (value_of_text is_big first t)
    (spelled_text is_big e.format t)
unfolding directory_entry
directory_again limit e is_big form first t well_formed is =
    subst (λ n. Again is_big first (directory_entry limit e (directory_formats n)) (value_of_text is_big first t)
    (spelled_text is_big e.format t)) is
    (subst (λ xs. Again is_big first (directory_entry limit e (directory_formats (form_of t)))
    (value_of_text is_big first t) xs) (append-nil (spelled_text is_big e.format t))
    (again_then _ (entry_again limit e is_big first (directory_formats (form_of t))
    (record no_facts { path = Some (value_of_text is_big first t) })
    (values_at bytes_of field_read first (path_field is_big e.format t ∷ []))
    (spelled_fields (path_field is_big e.format t ∷ []))
    (fields_again limit e is_big first (path_field is_big e.format t ∷ [])
    (All-cons (FieldAgain limit e is_big) (path_field is_big e.format t) []
    (λ n. text_again limit e is_big n t well_formed)
    (All-nil (FieldAgain limit e is_big)))) refl) (λ v. refl)))
