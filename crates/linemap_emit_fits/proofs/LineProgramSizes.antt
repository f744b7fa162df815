-- How many bytes a unit's line number program takes, and that none of them is refused.
use Rattle.std.proofs.Common.{◌≡◌, ℕ, ◌+◌, ◌<◌, ◌≤◌, ◌^◌, Bool, true, false, cond, ◌&&◌, List, [], ◌∷◌, ◌++◌, length, map, drop, sum_by, negsuc, Option, Err, refl, sym, ap, subst, ◌∙◌, arith, append_assoc}
use Rattle.std.specs.Prelude.{All, nat_le, nat_lt, flat_map}
use Rattle.std.proofs.lemmas.Bool.{eq-eqb, le-ltb, lt-ltb}
use Rattle.std.proofs.lemmas.List.{length-append}
use Rattle.std.proofs.lemmas.List.Elements.{All-head, All-tail, All-drop}
use Rattle.std.proofs.lemmas.List.Sums.{sum_by-cons}
use Rattle.linemap_emit_units.specs.Encoding.{Encoding}
use Rattle.linemap_emit_units.specs.Format.{Format}
use Rattle.linemap_emit_units.specs.Format.TheVariants.{Dwarf32, Dwarf64}
use Rattle.linemap_emit_units.specs.FormatSizes.{word_size}
use Rattle.linemap_emit_units.specs.NumberBytes.{constant_of, bytes_in_width, length_bytes, escape, complement}
use Rattle.linemap_emit_units.specs.WriteError.{Error}
use Rattle.linemap_emit_units.specs.WriteError.TheVariants.{NeedVersion}
use Rattle.linemap_emit_units.specs.EntryBytes.{entries_bytes}
use Rattle.linemap_emit_units.specs.BuiltRows.{first_row}
use Rattle.linemap_emit_units.specs.LineEntry.{LineEntry}
use Rattle.linemap_emit_units.specs.StringSections.{IsText, section_of, offset_of}
use Rattle.linemap_emit_units.specs.FileTables.{Text, in_header, of_strings, of_line_strings, File, Info}
use Rattle.linemap_emit_units.specs.HeaderTexts.{form_of, form_in, spelled_text}
use Rattle.linemap_emit_units.specs.HeaderSpelling.{Tables, path_form, source_form, spelled_directories_to_4, spelled_directories_of_5, spelled_file_to_4, spelled_files_to_4, spelled_files_of_5, spelled_directories, spelled_files, spelled_header, spelled_parameters, spelled_opcodes, spelled_sizes}
use Rattle.linemap_emit_units.specs.EntryFields.{WrittenFile, directory_formats, file_formats, spelled_formats, spelled_file}
use Rattle.linemap_emit_units.specs.HeaderContents.{header_text, header_file, header_files, listed_directories, tables_with, records_source, details_of, empty_text, strings_after, line_strings_after}
use Rattle.linemap_emit_units.specs.HeaderBytes.{bytes_or_refusal, offset_refusals, text_refusals, directories_refusals, file_refusals, files_refusals, header_refusals, header_bytes}
use Rattle.linemap_emit_units.specs.UnitBytes.{body_bytes, unit_with_length, unit_bytes}
use Rattle.linemap_emit_units.specs.BuiltPrograms.{no_details}
use Rattle.linemap_emit_units.specs.EmittedFiles.{EmittedFiles, HasTableTexts, first_unit_files, unit_files, unit_file_ids, place_in}
use Rattle.linemap_emit_units.specs.EmittedPrograms.{line_program_bytes}
use Rattle.linemap_emit_units.specs.SoundSequences.{CanEmitSequences}
use Rattle.linemap_emit_units.specs.TableParts.{UnitPart}
use Rattle.linemap_emit_units.specs.TableWeight.{sequence_weight}
use Rattle.linemap_emit_units.specs.EmittedRows.{emitted_rules, emitted_sequences}
use Rattle.linemap_emit_units.specs.EmittedUnits.{IsWritten}
use Rattle.linemap_emit_units.specs.Fixed.{number_bytes}
use Rattle.linemap_emit_units.specs.Spelling.{unsigned_string}
use Rattle.linemap_emit_units.proofs.NumberRoundTrip.{length-spelled}
use Rattle.linemap_emit_units.proofs.SoundFiles.{Stands, FileStands, AreSound, files_stay, unit_sound}
use Rattle.linemap_emit_units.proofs.BuiltUnits.{none_is_empty}
use Rattle.linemap_emit_fits.proofs.NumberSizes.{length-unsigned}
use Rattle.linemap_emit_fits.proofs.StringSectionSizes.{offset_within}
use Rattle.linemap_emit_fits.proofs.InstructionSizes.{IsWithin, bytes_within, joined_within, sized_within, sequences_within}
use Rattle.linemap_emit_fits.proofs.FileTableSizes.{text_size, file_size, tables_size}

-- ---- words

word_within : (is_big : Bool) (format : Format) (n : ℕ) → n < 2 ^ 31
    → IsWithin 8 (bytes_in_width is_big (word_size format) n)
word_within is_big Dwarf32 n low = sized_within is_big 4 n refl (omega arith)
word_within is_big Dwarf64 n low = sized_within is_big 8 n refl (omega arith)

length_within : (is_big : Bool) (format : Format) (n : ℕ) → n < 2 ^ 31 → IsWithin 8 (length_bytes is_big format n)
length_within is_big Dwarf32 n low = record {
  bytes = number_bytes is_big 4 n;
  are = rw (lt-ltb n 0xfffffff0 (omega arith)) refl;
  few = let l = length-spelled is_big 4 n in omega arith;
}
length_within is_big Dwarf64 n low = sized_within is_big 8 n refl (omega arith)

escape_few : (format : Format) → length (escape format) ≤ 4
escape_few Dwarf32 = omega arith
escape_few Dwarf64 = omega arith

-- ---- what isn't refused

-- no refusals, and at most n bytes
record Fit (n : ℕ) (refusals : List Error) (bytes : List ℕ) : Type 0 where
  none : refusals ≡ []
  few : length bytes ≤ n

bytes_fit : (n : ℕ) (bytes : List ℕ) → length bytes ≤ n → Fit n [] bytes
bytes_fit n bytes h = record { none = refl; few = h }

both_fit : {rs ss : List Error} {a b : List ℕ} (m n limit : ℕ) → Fit m rs a → Fit n ss b → m + n ≤ limit
    → Fit limit (rs ++ ss) (a ++ b)
both_fit {rs} {ss} {a} {b} m n limit g h fits = record {
  none = ap (λ l. l ++ ss) g.none ∙ h.none;
  few = let l = length-append a b in let p = g.few in let q = h.few in omega arith;
}

-- before other bytes
before_fit : {rs : List Error} {a : List ℕ} (m n limit : ℕ) (b : List ℕ) → Fit m rs a → length b ≤ n → m + n ≤ limit
    → Fit limit rs (a ++ b)
before_fit {rs} {a} m n limit b g h fits = record {
  none = g.none;
  few = let l = length-append a b in let p = g.few in omega arith;
}

-- after other bytes
after_fit : {rs : List Error} {b : List ℕ} (m n limit : ℕ) (a : List ℕ) → length a ≤ m → Fit n rs b → m + n ≤ limit
    → Fit limit rs (a ++ b)
after_fit {rs} {b} m n limit a h g fits = record {
  none = g.none;
  few = let l = length-append a b in let p = g.few in omega arith;
}

all_fit : {A B : Type 0} (see : A → B) (refusals : B → List Error) (spelled : B → List ℕ) (size : A → ℕ)
    (P : A → Type 0) → ((x : A) → P x → Fit (size x) (refusals (see x)) (spelled (see x))) → (xs : List A) → All P xs
    → Fit (sum_by size xs) (flat_map refusals (map see xs)) (flat_map spelled (map see xs))
all_fit see refusals spelled size P each [] all = bytes_fit 0 [] (omega arith)
all_fit see refusals spelled size P each (x ∷ xs) all =
    let whole = sum_by-cons size x xs in
    both_fit (size x) (sum_by size xs) _ (each x (All-head P x xs all))
    (all_fit see refusals spelled size P each xs (All-tail P x xs all)) (omega arith)

offset_fits : (is_big : Bool) (format : Format) (n : ℕ) → n < 2 ^ 31
    → Fit 8 (offset_refusals format n) (number_bytes is_big (word_size format) n)
offset_fits is_big Dwarf32 n low =
    rw (lt-ltb n (256 ^ 4) (omega arith))
    (bytes_fit 8 (number_bytes is_big 4 n) (let l = length-spelled is_big 4 n in omega arith))
offset_fits is_big Dwarf64 n low =
    rw (lt-ltb n (256 ^ 8) (omega arith))
    (bytes_fit 8 (number_bytes is_big 8 n) (let l = length-spelled is_big 8 n in omega arith))

module _ (e : Encoding) (is_big : Bool) (line_texts : List (List ℕ)) (small : length (section_of line_texts) < 2 ^ 31)
  where
    -- the form of texts
    abbrev the_form : ℕ
    the_form = cond (nat_le e.version 4) 0x08 0x1f

    form_is : (t : Text) → Stands e.version line_texts t → form_of (header_text [] line_texts t) ≡ the_form
    form_is (in_header bytes) h = rw h.0 refl
    form_is (of_strings place) h = absurd h
    form_is (of_line_strings place) h = rw h.0 refl

    text_within : (form : ℕ) (t : Text) → form ≡ the_form → Stands e.version line_texts t
        → Fit (text_size t) (text_refusals e form (header_text [] line_texts t))
        (spelled_text is_big e.format (header_text [] line_texts t))
    text_within form (in_header bytes) same h =
        rw (eq-eqb 0x08 form (form_is (in_header bytes) h ∙ sym same))
        (bytes_fit (length bytes + 1) (bytes ++ 0 ∷ [])
        (let l = length-append bytes (0 ∷ []) in omega arith))
    text_within form (of_strings place) same h = absurd h
    text_within form (of_line_strings place) same h =
        rw (eq-eqb 0x1f form (form_is (of_line_strings place) h ∙ sym same))
        (offset_fits is_big e.format (offset_of line_texts place)
        (let low = offset_within line_texts place in omega arith))

    -- ---- directories

    -- texts of one form
    forms_in : (t : Text) (ts : List Text) → Stands e.version line_texts t
        → form_in (map (header_text [] line_texts) (t ∷ ts)) ≡ the_form
    forms_in t ts h = form_is t h

    texts_within : (ts : List Text) → All (Stands e.version line_texts) ts → (form : ℕ)
        → (nat_le e.version 4 ≡ true → form ≡ 0x08)
        → (nat_le e.version 4 ≡ false → form ≡ form_in (map (header_text [] line_texts) ts))
        → Fit (sum_by text_size ts) (flat_map (text_refusals e form) (map (header_text [] line_texts) ts))
        (flat_map (spelled_text is_big e.format) (map (header_text [] line_texts) ts))
    texts_within [] all form old new = bytes_fit 0 [] (omega arith)
    texts_within (t ∷ ts) all form old new =
        all_fit (header_text [] line_texts) (text_refusals e form) (spelled_text is_big e.format) text_size
        (Stands e.version line_texts)
        (λ x h. text_within form x (by (nat_le e.version 4) refl) h) (t ∷ ts) all
      where
        by : (b : Bool) → nat_le e.version 4 ≡ b → form ≡ the_form
        by true is = old is ∙ rw is refl
        by false is = new is ∙ forms_in t ts (All-head (Stands e.version line_texts) t ts all)

    formats_few : (form : ℕ) → length (spelled_formats (directory_formats form)) ≤ 21
    formats_few form =
        let a = length-unsigned 1 in
        let b = length-unsigned form in
        let l = length-append (unsigned_string 1) (unsigned_string form) in
        let m = length-append (unsigned_string 1 ++ unsigned_string form) [] in
        omega arith

    directories_within : (ts : List Text) → All (Stands e.version line_texts) ts
        → Fit (31 + sum_by text_size ts) (directories_refusals e (map (header_text [] line_texts) ts))
        (spelled_directories e is_big (map (header_text [] line_texts) ts))
    directories_within ts all = by (nat_le e.version 4) refl
      where
        ds : List Text
        ds = map (header_text [] line_texts) ts

        by : (b : Bool) → nat_le e.version 4 ≡ b → Fit (31 + sum_by text_size ts)
            (flat_map (text_refusals e (cond b 0x08 (form_in ds))) ds)
            (cond b (spelled_directories_to_4 is_big e.format ds) (spelled_directories_of_5 is_big e.format ds))
        by true is =
            before_fit (sum_by text_size ts) 1 _ (0 ∷ [])
            (texts_within ts all 0x08 (λ old. refl) (λ new. absurd (let clash : true ≡ false = sym is ∙ new in cc)))
            (omega arith) (omega arith)
        by false is =
            after_fit 21 (10 + sum_by text_size ts) _ (spelled_formats (directory_formats (form_in ds)))
            (formats_few (form_in ds))
            (after_fit 10 (sum_by text_size ts) _ (unsigned_string (length ds)) (length-unsigned (length ds))
            (texts_within ts all (form_in ds) (λ old. absurd (let clash : true ≡ false = sym old ∙ is in cc))
            (λ new. refl)) (omega arith)) (omega arith)

    -- ---- files

    -- a file as a header records it, which has no text of its own
    abbrev written : File → Info → WrittenFile
    written f i = header_file [] line_texts (records_source e.version no_details) (in_header []) f i

    -- what follows its path up to version 4
    abbrev after_path : WrittenFile → List ℕ
    after_path f = unsigned_string f.directory ++ (unsigned_string f.timestamp ++ unsigned_string f.size)

    after_path_few : (f : WrittenFile) → length (after_path f) ≤ 30
    after_path_few f =
        let a = length-unsigned f.directory in
        let b = length-unsigned f.timestamp in
        let c = length-unsigned f.size in
        let l = length-append (unsigned_string f.timestamp) (unsigned_string f.size) in
        let m = length-append (unsigned_string f.directory) (unsigned_string f.timestamp ++ unsigned_string f.size) in
        omega arith

    directory_few : (f : WrittenFile) → length (unsigned_string f.directory ++ []) ≤ 10
    directory_few f =
        let a = length-unsigned f.directory in let l = length-append (unsigned_string f.directory) [] in omega arith

    module _ (directories : ℕ) where
      abbrev FileIs : File → Type 0
      FileIs f = FileStands e.version line_texts directories f

      file_to_4 : nat_le e.version 4 ≡ true → (f : File) (i : Info) → FileIs f
          → Fit (file_size f) (file_refusals e false 0x08 0x08 (written f i))
          (spelled_file_to_4 is_big e.format (written f i))
      file_to_4 old f i h =
          both_fit (text_size f.path) 30 _ (text_within 0x08 f.path (rw old refl) h.path)
          (bytes_fit 30 (after_path (written f i)) (after_path_few (written f i))) (omega arith)

      file_of_5 : (path_form source_form : ℕ) → path_form ≡ the_form → (f : File) (i : Info) → FileIs f
          → Fit (file_size f) (file_refusals e false path_form source_form (written f i))
          (spelled_file is_big e.format (details_of no_details) (written f i))
      file_of_5 path_form source_form same f i h =
          both_fit (text_size f.path) 10 _ (text_within path_form f.path same h.path)
          (bytes_fit 10 (unsigned_string f.directory ++ []) (directory_few (written f i))) (omega arith)

      -- files as a header records them
      abbrev all_written : List File → List Info → List WrittenFile
      all_written files infos =
          header_files [] line_texts (records_source e.version no_details) (in_header []) files infos

      files_within : (refusals : WrittenFile → List Error) (spelled : WrittenFile → List ℕ)
          → ((x : File) (i : Info) → FileIs x → Fit (file_size x) (refusals (written x i)) (spelled (written x i)))
          → (files : List File) (infos : List Info) → All FileIs files
          → Fit (sum_by file_size files) (flat_map refusals (all_written files infos))
          (flat_map spelled (all_written files infos))
      files_within refusals spelled each [] infos all = bytes_fit 0 [] (omega arith)
      files_within refusals spelled each (x ∷ files) [] all = bytes_fit _ [] (omega arith)
      files_within refusals spelled each (x ∷ files) (i ∷ infos) all =
          let whole = sum_by-cons file_size x files in
          both_fit (file_size x) (sum_by file_size files) _ (each x i (All-head FileIs x files all))
          (files_within refusals spelled each files infos (All-tail FileIs x files all)) (omega arith)

      -- tables of files alone
      abbrev files_alone : List File → List Info → Tables
      files_alone files infos =
          record { directories = []; files = all_written files infos; details = details_of no_details }

      -- the form of their paths
      paths_in : (files : List File) (infos : List Info) → All FileIs files → (f : File) (i : Info)
          → files ≡ f ∷ drop 1 files → infos ≡ i ∷ drop 1 infos
          → path_form (files_alone files infos) ≡ the_form
      paths_in [] infos all f i one two = absurd cc
      paths_in (x ∷ files) [] all f i one two = absurd cc
      paths_in (x ∷ files) (j ∷ infos) all f i one two = form_is x.path (All-head FileIs x files all).path

      file_formats_few : (path_form source_form : ℕ)
          → length (spelled_formats (file_formats (details_of no_details) path_form source_form)) ≤ 41
      file_formats_few path_form source_form =
          let a = length-unsigned 1 in
          let b = length-unsigned path_form in
          let c = length-unsigned 2 in
          let d = length-unsigned 0x0f in
          let l = length-append (unsigned_string 1) (unsigned_string path_form) in
          let m = length-append (unsigned_string 2) (unsigned_string 0x0f) in
          let k = length-append (unsigned_string 2 ++ unsigned_string 0x0f) [] in
          let n =
          length-append (unsigned_string 1 ++ unsigned_string path_form)
          ((unsigned_string 2 ++ unsigned_string 0x0f) ++ [])
          in
          omega arith

      -- in version 5
      described : (files : List File) (infos : List Info) → All FileIs files → Fit (sum_by file_size files)
          (flat_map (file_refusals e false (path_form (files_alone files infos))
          (source_form (files_alone files infos))) (all_written files infos))
          (flat_map (spelled_file is_big e.format (details_of no_details)) (all_written files infos))
      described [] infos all = bytes_fit 0 [] (omega arith)
      described (f ∷ files) [] all = bytes_fit _ [] (omega arith)
      described (f ∷ files) (i ∷ infos) all =
          let t = files_alone (f ∷ files) (i ∷ infos) in
          files_within (file_refusals e false (path_form t) (source_form t))
          (spelled_file is_big e.format (details_of no_details))
          (λ x j h. file_of_5 (path_form t) (source_form t) (paths_in (f ∷ files) (i ∷ infos) all f i refl refl) x j h)
          (f ∷ files) (i ∷ infos) all

      all_files_within : (files : List File) (infos : List Info) → All FileIs files
          → Fit (51 + sum_by file_size files) (files_refusals e (files_alone files infos))
          (spelled_files e is_big (files_alone files infos))
      all_files_within files infos all = by (nat_le e.version 4) refl
        where
          t : Tables
          t = files_alone files infos

          by : (b : Bool) → nat_le e.version 4 ≡ b → Fit (51 + sum_by file_size files)
              (cond b (flat_map (file_refusals e false 0x08 0x08) t.files)
              (flat_map (file_refusals e false (path_form t) (source_form t)) t.files))
              (cond b (spelled_files_to_4 is_big e.format t) (spelled_files_of_5 is_big e.format t))
          by true old =
              before_fit (sum_by file_size files) 1 _ (0 ∷ [])
              (files_within (file_refusals e false 0x08 0x08) (spelled_file_to_4 is_big e.format)
              (λ x i h. file_to_4 old x i h) files infos all) (omega arith) (omega arith)
          by false new =
              after_fit 41 (10 + sum_by file_size files) _
              (spelled_formats (file_formats (details_of no_details) (path_form t) (source_form t)))
              (file_formats_few (path_form t) (source_form t))
              (after_fit 10 (sum_by file_size files) _ (unsigned_string (length t.files))
              (length-unsigned (length t.files)) (described files infos all) (omega arith)) (omega arith)

-- ---- the unit

-- the listed directories are no more than all
listed_few : (version : ℕ) (ts : List Text) → sum_by text_size (listed_directories version ts) ≤ sum_by text_size ts
listed_few version [] = by (nat_le version 4)
  where
    by : (b : Bool) → sum_by text_size (cond {A = List Text} b [] []) ≤ sum_by text_size []
    by true = omega arith
    by false = omega arith
listed_few version (t ∷ ts) = by (nat_le version 4)
  where
    by : (b : Bool) → sum_by text_size (cond b ts (t ∷ ts)) ≤ sum_by text_size (t ∷ ts)
    by true = let whole = sum_by-cons text_size t ts in omega arith
    by false = omega arith

module _ (e : Encoding) (is_big : Bool) (served : IsWritten e) (st : EmittedFiles)
    (same : st.tables.version ≡ e.version) (sound : AreSound st)
    (small : length (section_of st.line_texts) < 2 ^ 31) where
  -- the tables of a version
  abbrev tables_in : ℕ → Tables
  tables_in version = record {
    directories = map (header_text [] st.line_texts) (listed_directories version st.tables.directories);
    files = header_files [] st.line_texts (records_source version no_details) (in_header []) st.tables.files
        st.tables.infos;
    details = details_of no_details;
  }

  directories_stand : All (Stands e.version st.line_texts) st.tables.directories
  directories_stand = subst (λ v. All (Stands v st.line_texts) st.tables.directories) same sound.directories

  files_stand : All (FileStands e.version st.line_texts (length st.tables.directories)) st.tables.files
  files_stand =
      subst (λ v. All (FileStands v st.line_texts (length st.tables.directories)) st.tables.files) same sound.files

  listed_stand : All (Stands e.version st.line_texts) (listed_directories e.version st.tables.directories)
  listed_stand = by (nat_le e.version 4)
    where
      by : (b : Bool) → All (Stands e.version st.line_texts)
          (cond b (drop 1 st.tables.directories) st.tables.directories)
      by true = All-drop (Stands e.version st.line_texts) 1 st.tables.directories directories_stand
      by false = directories_stand

  parameters_few : length (spelled_parameters (emitted_rules e) ++ spelled_opcodes) ≤ 18
  parameters_few = by (nat_le 4 e.version)
    where
      by : (b : Bool)
          → length ((1 ∷ ((cond b (1 ∷ []) []) ++ (1 ∷ complement 1 (negsuc 4) ∷ 14 ∷ []))) ++ spelled_opcodes) ≤ 18
      by true = omega arith
      by false = omega arith

  header_within : IsWithin (100 + tables_size st) (header_bytes is_big (emitted_rules e) (tables_in e.version))
  unfolding header_bytes
  header_within =
      let listed = listed_few e.version st.tables.directories in
      let t = tables_in e.version in
      let start = spelled_parameters (emitted_rules e) in
      let tables : Fit (82 + tables_size st) (header_refusals e t)
      (spelled_directories e is_big t.directories ++ spelled_files e is_big t) =
      both_fit (31 + sum_by text_size (listed_directories e.version st.tables.directories))
      (51 + sum_by file_size st.tables.files) _
      (directories_within e is_big st.line_texts small (listed_directories e.version st.tables.directories)
      listed_stand)
      (all_files_within e is_big st.line_texts small (length st.tables.directories) st.tables.files st.tables.infos
      files_stand) (omega arith) in
      let whole = after_fit 18 (82 + tables_size st) (100 + tables_size st) (start ++ spelled_opcodes) parameters_few
      tables (omega arith) in
      subst (λ rs. IsWithin (100 + tables_size st) (bytes_or_refusal rs (spelled_header (emitted_rules e) is_big t)))
      (sym whole.none)
      (bytes_within (100 + tables_size st) (spelled_header (emitted_rules e) is_big t)
      (subst (λ l. length l ≤ 100 + tables_size st)
      (append_assoc start spelled_opcodes (spelled_directories e is_big t.directories ++ spelled_files e is_big t))
      whole.few))

  sizes_few : length (spelled_sizes e is_big) ≤ 4
  sizes_few =
      by (nat_le e.version 4) (length-spelled is_big 2 e.version)
    where
      by : (b : Bool) → length (number_bytes is_big 2 e.version) ≡ 2
          → length (number_bytes is_big 2 e.version ++ cond b [] (e.address_size ∷ 0 ∷ [])) ≤ 4
      by true l = let m = length-append (number_bytes is_big 2 e.version) [] in omega arith
      by false l = let m = length-append (number_bytes is_big 2 e.version) (e.address_size ∷ 0 ∷ []) in omega arith

  module _ (entries : List LineEntry) (n : ℕ)
      (rows : IsWithin n (entries_bytes constant_of is_big (emitted_rules e) (first_row (emitted_rules e)) entries))
      (fits : 200 + tables_size st + n < 2 ^ 31) where
    body_within : IsWithin (112 + tables_size st + n)
        (body_bytes constant_of is_big (emitted_rules e) (header_bytes is_big (emitted_rules e) (tables_in e.version))
        entries)
    body_within =
        let header = header_within in
        let few = header.few in
        rw header.are
        (joined_within 4 (108 + tables_size st + n) _ (bytes_within 4 (spelled_sizes e is_big) sizes_few)
        (joined_within 8 (100 + tables_size st + n) _
        (word_within is_big e.format (length header.bytes) (omega arith))
        (joined_within (100 + tables_size st) n _ (bytes_within _ header.bytes few) rows (omega arith)) (omega arith))
        (omega arith))

    counted_within : IsWithin (124 + tables_size st + n)
        (unit_with_length constant_of is_big (emitted_rules e) (tables_in e.version) entries)
    counted_within =
        let body = body_within in
        let few = body.few in
        rw body.are
        (joined_within 4 (120 + tables_size st + n) _ (bytes_within 4 (escape e.format) (escape_few e.format))
        (joined_within 8 (112 + tables_size st + n) _
        (length_within is_big e.format (length body.bytes) (omega arith)) (bytes_within _ body.bytes few) (omega arith))
        (omega arith))

    pub unit_within : IsWithin (124 + tables_size st + n)
        (unit_bytes constant_of is_big (emitted_rules e) (tables_in e.version) entries)
    unit_within =
        rw (le-ltb e.version 2 served.not_before_2, le-ltb 5 e.version served.not_after_5)
        (by (nat_lt e.version 4))
      where
        by : (b : Bool) → IsWithin (124 + tables_size st + n)
            (cond (b && false) (Err NeedVersion)
            (unit_with_length constant_of is_big (emitted_rules e) (tables_in e.version) entries))
        by true = counted_within
        by false = counted_within

    pub tables_within : IsWithin (124 + tables_size st + n)
        (unit_bytes constant_of is_big (emitted_rules e)
        (tables_with [] st.line_texts st.tables no_details (in_header [])) entries)
    tables_within =
        subst (λ v. IsWithin (124 + tables_size st + n)
        (unit_bytes constant_of is_big (emitted_rules e) (tables_in v) entries)) (sym same) unit_within

-- a unit's program
pub program_within : (e : Encoding) (is_big : Bool) (u : UnitPart) (line_texts : List (List ℕ)) → IsWritten e
    → HasTableTexts u → All IsText line_texts → CanEmitSequences e.address_size (length u.files) u.sequences
    → length (section_of (unit_files e u line_texts).line_texts) < 2 ^ 31
    → 200 + tables_size (unit_files e u line_texts) + sum_by sequence_weight u.sequences < 2 ^ 31
    → IsWithin (124 + tables_size (unit_files e u line_texts) + sum_by sequence_weight u.sequences)
    (line_program_bytes e is_big u line_texts)
program_within e is_big u line_texts served has free sequences small fits =
    let st = unit_files e u line_texts in
    let entries = emitted_sequences (place_in (unit_file_ids e u line_texts)) u.sequences in
    let n = sum_by sequence_weight u.sequences in
    subst (λ (o : Option Text). IsWithin (124 + tables_size st + n)
    (unit_bytes constant_of is_big (emitted_rules e)
    (tables_with (strings_after o []) (line_strings_after o st.line_texts) st.tables no_details
    (empty_text [] st.line_texts o)) entries)) (sym (none_is_empty st.tables.version st.tables.infos))
    (tables_within e is_big served st (files_stay u.files (first_unit_files e u line_texts)).version
    (unit_sound e u line_texts has free) small entries n
    (sequences_within e is_big served.has_address_size (place_in (unit_file_ids e u line_texts)) u.sequences
    sequences.can_build) fits)
