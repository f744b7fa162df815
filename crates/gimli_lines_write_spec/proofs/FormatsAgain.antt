-- Formats, and the tables of version 5, are read again.
use Rattle.std.proofs.Common.{◌≡◌, ℕ, ◌+◌, ◌*◌, ◌<◌, ◌≤◌, ◌^◌, ◌%◌, Bool, true, false, List, [], ◌∷◌, ◌++◌, length, Ok, refl, ap, subst, ◌∙◌, arith}
use Rattle.std.specs.Prelude.{flat_map, All, min}
use Rattle.std.proofs.lemmas.Bool.{lt-ltb}
use Rattle.std.proofs.lemmas.List.{length-append}
use Rattle.std.proofs.lemmas.List.Elements.{All-nil, All-cons, All-append}
use Rattle.std.proofs.Math.Nat.{mod-eq_of_lt}
use Rattle.gimli_lines_write_rows.specs.Error.TheVariants.{BadUnsignedLeb128, MissingFileEntryFormatPath}
use Rattle.gimli_lines_write_rows.specs.View.{View}
use Rattle.gimli_lines_write_rows.specs.Parsers.{give, demand, ◌>>=◌, ◌>>◌}
use Rattle.gimli_lines_write_rows.specs.Repetition.{times}
use Rattle.gimli_lines_write_rows.proofs.PrefixReads.{after_is}
use Rattle.gimli_lines_write_rows.specs.Encoding.{Encoding}
use Rattle.gimli_lines_write_rows.specs.Format.{Format}
use Rattle.gimli_lines_write_rows.specs.Format.TheVariants.{Dwarf32, Dwarf64}
use Rattle.gimli_lines_write_rows.specs.FormatSizes.{word_size}
use Rattle.gimli_lines_write_rows.specs.Leb128.{unsigned_at}
use Rattle.gimli_lines_write_rows.specs.NumberParsers.{unsigned_16, number_and_rest}
use Rattle.gimli_lines_write_rows.proofs.NumberRoundTrip.{length-spelled}
use Rattle.gimli_lines_write_rows.specs.Spelling.{unsigned_within, unsigned_string}
use Rattle.gimli_lines_header.specs.declared.formats.FileEntryFormat.{FileEntryFormat}
use Rattle.gimli_lines_header.specs.LineFiles.{path_content, directory_content, timestamp_content, size_content, md5_content, source_content}
use Rattle.gimli_lines_header.specs.TableEntries as entries
use Rattle.gimli_lines_header.specs.TableEntries.{entry_formats, has_one_path, directory_entry, file_entry}
use Rattle.gimli_lines_header.specs.HeaderTables.{directory_entries, file_entries, directories_of_5, files_of_5}
use Rattle.gimli_lines_write_spec.specs.HeaderTexts.{Text, in_header, of_strings, of_line_strings, form_of, form_in, spelled_text, value_of_text, IsReadableText}
use Rattle.gimli_lines_write_rows.specs.RowPieces.{when}
use Rattle.gimli_lines_write_spec.specs.EntryFields.{WrittenFile, Details, spelled_file, directory_formats, field_format, file_formats, spelled_format, spelled_formats, file_facts, IsReadableFile}
use Rattle.gimli_lines_write_rows.proofs.FollowedReads.{Again, again_onward, again_then, again_unsigned, one_byte}
use Rattle.gimli_lines_write_spec.proofs.TablesAgain.{times_again}
use Rattle.gimli_lines_write_spec.proofs.EntriesAgain.{file_again, directory_again}
use Rattle.gimli_lines_write_rows.specs.BytesAt.{bytes_at, values_at}

-- ---- formats

-- a number of one byte
small_again : (is_big : Bool) (first n : ℕ) → n < 128 → Again is_big first unsigned_16 n (unsigned_string n)
unfolding unsigned_16 unsigned_within
small_again is_big first n low =
    rw (lt-ltb n 128 low) (record {
      again = λ rest.
          ap (number_and_rest BadUnsignedLeb128 (bytes_at is_big first (n ∷ rest))) (number rest)
          ∙ ap (λ (w : View). Ok (n, w)) (after_is (bytes_at is_big first (n ∷ rest)) (n ∷ []) rest 1 refl refl);
    })
  where
    digit : n % 128 * 1 + 0 ≡ n
    digit = let same : n % 128 ≡ n = mod-eq_of_lt low in omega arith

    number : (rest : List ℕ) → unsigned_at 3 (2 ^ 16) (n ∷ rest) ≡ Ok (n, 1)
    number rest = rw (lt-ltb n 128 low, digit, lt-ltb n 65536 (omega arith)) refl

-- a content and a form that are numbered
abbrev FormatStands : FileEntryFormat → Type 0
FormatStands f = (min f.content_type.0 0xffff ≡ f.content_type.0) × (f.content_type.0 < 2 ^ 64) × (f.form.0 < 128)

format_again : (is_big : Bool) (first : ℕ) (f : FileEntryFormat) → FormatStands f
    → Again is_big first entries.entry_format f (spelled_format f)
unfolding entries.entry_format
format_again is_big first f well_formed =
    again_onward (λ content. unsigned_16 >>= λ form. give (field_format (min content 0xffff) form))
    (again_unsigned is_big first f.content_type.0 well_formed.1)
    (again_then (λ form. give (field_format (min f.content_type.0 0xffff) form))
    (small_again is_big (first + length (unsigned_string f.content_type.0)) f.form.0 well_formed.2)
    (λ v. ap (λ n. Ok (field_format n f.form.0, v)) well_formed.0))

-- the same wherever they are
same_format : ℕ → FileEntryFormat → FileEntryFormat
same_format first f = f

same_formats : (first : ℕ) (formats : List FileEntryFormat) → values_at spelled_format same_format first formats
    ≡ formats
unfolding same_format
same_formats first [] = refl
same_formats first (f ∷ formats) = ap (λ l. f ∷ l) (same_formats (first + length (spelled_format f)) formats)

formats_again : (is_big : Bool) (first : ℕ) (formats : List FileEntryFormat) → All FormatStands formats
    → length formats < 256 → has_one_path formats ≡ true
    → Again is_big first entry_formats formats (spelled_formats formats)
unfolding entry_formats same_format
formats_again is_big first formats stand few one =
    again_onward (λ count. times count entries.entry_format >>= λ fs.
    (demand (has_one_path fs) MissingFileEntryFormatPath >> give fs)) (one_byte is_big first (length formats) few)
    (again_then (λ fs. demand (has_one_path fs) MissingFileEntryFormatPath >> give fs)
    (subst (λ fs. Again is_big (first + 1) (times (length formats) entries.entry_format) fs
    (flat_map spelled_format formats)) (same_formats (first + 1) formats)
    (times_again entries.entry_format is_big spelled_format same_format FormatStands (first + 1) formats
    (λ n f is. format_again is_big n f is) stand))
    (λ v. rw one refl))

-- a form of a text is a small number
low_form : (t : Text) → form_of t < 128
low_form (in_header text) = omega arith
low_form (of_strings offset) = omega arith
low_form (of_line_strings offset) = omega arith

pub low_form_in : (ts : List Text) → form_in ts < 128
low_form_in [] = omega arith
low_form_in (t ∷ ts) = low_form t

-- the formats of files
few_formats : (d : Details) (path_form source_form : ℕ) → (length (file_formats d path_form source_form) < 256)
    × (has_one_path (file_formats d path_form source_form) ≡ true)
few_formats d path_form source_form = by d.has_timestamp d.has_size d.has_md5 d.has_source
  where
    by : (a b c s : Bool)
        → (length (file_formats (record { has_timestamp = a; has_size = b; has_md5 = c; has_source = s }) path_form
        source_form) < 256) × (has_one_path
        (file_formats (record { has_timestamp = a; has_size = b; has_md5 = c; has_source = s }) path_form source_form)
        ≡ true)
    by true true true true = (omega arith, refl)
    by true true true false = (omega arith, refl)
    by true true false true = (omega arith, refl)
    by true true false false = (omega arith, refl)
    by true false true true = (omega arith, refl)
    by true false true false = (omega arith, refl)
    by true false false true = (omega arith, refl)
    by true false false false = (omega arith, refl)
    by false true true true = (omega arith, refl)
    by false true true false = (omega arith, refl)
    by false true false true = (omega arith, refl)
    by false true false false = (omega arith, refl)
    by false false true true = (omega arith, refl)
    by false false true false = (omega arith, refl)
    by false false false true = (omega arith, refl)
    by false false false false = (omega arith, refl)

formats_stand : (d : Details) (path_form source_form : ℕ) → path_form < 128 → source_form < 128
    → All FormatStands (file_formats d path_form source_form)
formats_stand d path_form source_form low small =
    let path = field_format path_content path_form in
    let directory = field_format directory_content 0x0f in
    let timestamp = field_format timestamp_content 0x0f in
    let size = field_format size_content 0x0f in
    let digest = field_format md5_content 0x1e in
    let source = field_format source_content source_form in
    let sizes = when d.has_size size ++ when d.has_md5 digest in
    let details = when d.has_timestamp timestamp ++ sizes in
    All-append FormatStands (path ∷ directory ∷ details) (when d.has_source source)
    (All-cons FormatStands path (directory ∷ details) (refl, omega arith, low)
    (All-cons FormatStands directory details (refl, omega arith, omega arith)
    (All-append FormatStands (when d.has_timestamp timestamp) sizes
    (all_when d.has_timestamp timestamp (refl, omega arith, omega arith))
    (All-append FormatStands (when d.has_size size) (when d.has_md5 digest)
    (all_when d.has_size size (refl, omega arith, omega arith))
    (all_when d.has_md5 digest (refl, omega arith, omega arith))))))
    (all_when d.has_source source (refl, omega arith, small))
  where
    all_when : (b : Bool) (x : FileEntryFormat) → FormatStands x → All FormatStands (when b x)
    all_when true x is = All-cons FormatStands x [] is (All-nil FormatStands)
    all_when false x is = All-nil FormatStands

pub file_formats_again : (is_big : Bool) (first : ℕ) (d : Details) (path_form source_form : ℕ) → path_form < 128
    → source_form < 128
    → Again is_big first entry_formats (file_formats d path_form source_form)
    (spelled_formats (file_formats d path_form source_form))
file_formats_again is_big first d path_form source_form low small =
    let few = few_formats d path_form source_form in
    formats_again is_big first (file_formats d path_form source_form) (formats_stand d path_form source_form low small)
    few.0 few.1

pub directory_formats_again : (is_big : Bool) (first form : ℕ) → form < 128
    → Again is_big first entry_formats (directory_formats form) (spelled_formats (directory_formats form))
directory_formats_again is_big first form low =
    formats_again is_big first (directory_formats form)
    (All-cons FormatStands (field_format path_content form) [] (refl, omega arith, low) (All-nil FormatStands))
    (omega arith) refl

-- ---- tables

-- a directory whose form is that of its list
abbrev InList : ℕ → Format → ℕ → Text → Type 0
InList limit format form t = IsReadableText limit format t × (form_of t ≡ form)

pub directories_again_5 : (limit : ℕ) (e : Encoding) (is_big : Bool) (first : ℕ) (ts : List Text)
    → All (IsReadableText limit e.format) ts → All (λ t. form_of t ≡ form_in ts) ts → length ts < 2 ^ 64
    → Again is_big first (directories_of_5 limit e) (
      directory_formats (form_in ts),
      values_at (spelled_text is_big e.format) (value_of_text is_big)
          (first + (length (spelled_formats (directory_formats (form_in ts))) + length (unsigned_string (length ts))))
          ts,
    )
    (spelled_formats (directory_formats (form_in ts))
    ++ (unsigned_string (length ts) ++ flat_map (spelled_text is_big e.format) ts))
unfolding directories_of_5 directory_entries
directories_again_5 limit e is_big first ts stand alike few =
    let formats = directory_formats (form_in ts) in
    let at = first + length (spelled_formats formats) in
    let same : at + length (unsigned_string (length ts))
    ≡ first + (length (spelled_formats formats) + length (unsigned_string (length ts))) = omega arith in
    again_onward (λ fs. directory_entries limit e fs >>= λ ds. give (fs, ds))
    (directory_formats_again is_big first (form_in ts) (low_form_in ts))
    (again_then (λ ds. give (formats, ds))
    (again_onward (λ count. times count (directory_entry limit e formats)) (again_unsigned is_big at (length ts) few)
    (subst (λ (n : ℕ). Again is_big (at + length (unsigned_string (length ts)))
    (times (length ts) (directory_entry limit e formats))
    (values_at (spelled_text is_big e.format) (value_of_text is_big) n ts)
    (flat_map (spelled_text is_big e.format) ts)) same
    (times_again (directory_entry limit e formats) is_big (spelled_text is_big e.format) (value_of_text is_big)
    (InList limit e.format (form_in ts)) (at + length (unsigned_string (length ts))) ts
    (λ n t is. directory_again limit e is_big (form_in ts) n t is.0 is.1) (λ k d h. (stand k d h, alike k d h)))))
    (λ v. refl))

abbrev FileInList : ℕ → Format → ℕ → ℕ → WrittenFile → Type 0
FileInList limit format path_form source_form f =
    IsReadableFile limit format f × (form_of f.path ≡ path_form) × (form_of f.source ≡ source_form)

pub files_again_5 : (limit : ℕ) (e : Encoding) (is_big : Bool) (d : Details) (path_form source_form : ℕ) (first : ℕ)
    (fs : List WrittenFile) → path_form < 128 → source_form < 128
    → All (IsReadableFile limit e.format) fs → All (λ (f : WrittenFile). form_of f.path ≡ path_form) fs
    → All (λ (f : WrittenFile). form_of f.source ≡ source_form) fs → length fs < 2 ^ 64
    → Again is_big first (files_of_5 limit e) (
      file_formats d path_form source_form,
      values_at (spelled_file is_big e.format d) (file_facts is_big e.format d)
          (first + (length (spelled_formats (file_formats d path_form source_form))
          + length (unsigned_string (length fs))))
          fs,
    )
    (spelled_formats (file_formats d path_form source_form)
    ++ (unsigned_string (length fs) ++ flat_map (spelled_file is_big e.format d) fs))
unfolding files_of_5 file_entries
files_again_5 limit e is_big d path_form source_form first fs low small stand paths sources few =
    let formats = file_formats d path_form source_form in
    let at = first + length (spelled_formats formats) in
    let same : at + length (unsigned_string (length fs))
    ≡ first + (length (spelled_formats formats) + length (unsigned_string (length fs))) = omega arith in
    again_onward (λ formats. file_entries limit e formats >>= λ files. give (formats, files))
    (file_formats_again is_big first d path_form source_form low small)
    (again_then (λ files. give (formats, files))
    (again_onward (λ count. times count (file_entry limit e formats)) (again_unsigned is_big at (length fs) few)
    (subst (λ (n : ℕ). Again is_big (at + length (unsigned_string (length fs)))
    (times (length fs) (file_entry limit e formats))
    (values_at (spelled_file is_big e.format d) (file_facts is_big e.format d) n fs)
    (flat_map (spelled_file is_big e.format d) fs)) same
    (times_again (file_entry limit e formats) is_big (spelled_file is_big e.format d) (file_facts is_big e.format d)
    (FileInList limit e.format path_form source_form) (at + length (unsigned_string (length fs))) fs
    (λ n f is. file_again limit e is_big d path_form source_form n f is.0 is.1 is.2)
    (λ k d h. (stand k d h, paths k d h, sources k d h)))))
    (λ v. refl))

-- ---- entries take bytes

pub items_take_bytes : {T : Type 0} (string : T → List ℕ) → ((t : T) → 1 ≤ length (string t)) → (ts : List T)
    → length ts ≤ length (flat_map string ts)
items_take_bytes string some [] = omega arith
items_take_bytes string some (t ∷ ts) = let one = some t in let rest = items_take_bytes string some ts in
    omega (arith, length-append (string t) (flat_map string ts))

word_some : (format : Format) → 1 ≤ word_size format
word_some Dwarf32 = omega arith
word_some Dwarf64 = omega arith

pub text_some : (is_big : Bool) (format : Format) (t : Text) → 1 ≤ length (spelled_text is_big format t)
text_some is_big format (in_header text) = omega (arith, length-append text (0 ∷ []))
text_some is_big format (of_strings offset) =
    let some = word_some format in omega (arith, length-spelled is_big (word_size format) offset)
text_some is_big format (of_line_strings offset) =
    let some = word_some format in omega (arith, length-spelled is_big (word_size format) offset)

front_some : (a b : List ℕ) → 1 ≤ length a → 1 ≤ length (a ++ b)
front_some a b h = omega (arith, length-append a b)

pub file_some : (is_big : Bool) (format : Format) (d : Details) (f : WrittenFile)
    → 1 ≤ length (spelled_file is_big format d f)
file_some is_big format d f = front_some (spelled_text is_big format f.path) _ (text_some is_big format f.path)
