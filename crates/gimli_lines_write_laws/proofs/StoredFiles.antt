-- The directories and files of a program that was written are read as they were built, with what their version and
-- details store.
use Rattle.std.proofs.Common.{◌≡◌, ◌≢◌, ℕ, ◌+◌, ◌<◌, ◌≤◌, ◌^◌, Bool, true, false, cond, not, ◌&&◌, ◌||◌, List, [], ◌∷◌, drop, map, length, get_or, Option, Some, None, unwrap_or, refl, sym, ap, subst, ◌∙◌, arith}
use Rattle.std.specs.Prelude.{All, nat_le, option_map, if◌then◌else◌}
use Rattle.std.specs.List.{zip}
use Rattle.std.specs.Option.{IfSome}
use Rattle.std.proofs.lemmas.Bool.{le-leb}
use Rattle.std.proofs.lemmas.List.Elements.{All-nil, All-cons, All-head, All-tail, All-weaker, All-map, All-drop}
use Rattle.gimli_lines_rows.specs.View.{View}
use Rattle.gimli_lines_rows.specs.LineFiles.{no_md5}
use Rattle.gimli_lines_write_unit.specs.Encoding.{Encoding}
use Rattle.gimli_lines_write_unit.specs.Format.{Format}
use Rattle.gimli_lines_write_unit.specs.StringSections.{IsText, section_of}
use Rattle.gimli_lines_write_unit.specs.FileTables.{Text, in_header, File, Info, ProgramFiles, IsConsistent, HasNoZero, HasBytes}
use Rattle.gimli_lines_write_unit.specs.HeaderTexts.{spelled_text, value_of_text}
use Rattle.gimli_lines_write_unit.specs.EntryFields.{WrittenFile, file_facts, spelled_file, spelled_fields, leading_fields}
use Rattle.gimli_lines_write_unit.specs.BytesAt.{values_at}
use Rattle.gimli_lines_write_unit.specs.HeaderSpelling.{spelled_file_to_4, file_facts_to_4, directory_values, facts_of_files, entries_offset, formats_of_directories, formats_of_files}
use Rattle.gimli_lines_write_unit.specs.declared.details.FileDetails.{FileDetails}
use Rattle.gimli_lines_write_unit.specs.HeaderContents.{details_of, header_text, listed_directories, records_source, source_text, header_file, header_files, tables_with, AllKnown}
use Rattle.gimli_lines_write_unit.specs.LineStrings.{IsKnown, bytes_of_text}
use Rattle.gimli_lines_write_laws.specs.UnitReadBack.{IsBelow, FileBelow, FileReadsBack, TablesReadBack}
use Rattle.gimli_lines_write_laws.specs.ProgramReadBack.{text_read, Holds, FileRead, file_read, source_bytes, file_built, InfoFits, SourceHasNoZero}
use Rattle.gimli_lines_write_laws.proofs.ReadTexts.{values_read, text_again, text_below, text_zero_free, text_filled}

-- ---- lists of pairs

All-zip : {A B : Type 0} (P : A → Type 0) (Q : B → Type 0) (xs : List A) (ys : List B) → All P xs → All Q ys
    → All (λ (p : A × B). P p.0 × Q p.1) (zip xs ys)
All-zip P Q [] ys one two = All-nil _
All-zip P Q (x ∷ xs) [] one two = All-nil _
All-zip {A} {B} P Q (x ∷ xs) (y ∷ ys) one two =
    All-cons (λ (p : A × B). P p.0 × Q p.1) (x, y) (zip xs ys) (All-head P x xs one, All-head Q y ys two)
    (All-zip P Q xs ys (All-tail P x xs one) (All-tail Q y ys two))

All-both : {A : Type 0} (P Q : A → Type 0) (xs : List A) → All P xs → All Q xs → All (λ x. P x × Q x) xs
All-both P Q xs one two = λ n x h. (one n x h, two n x h)

module _ (s l : List (List ℕ)) (k : ProgramFiles) (d : FileDetails) (empty : Text) where
  -- a file with its information, as a header records it
  abbrev pub written : File × Info → WrittenFile
  written p = header_file s l (records_source k.version d) empty p.0 p.1

  files_zipped : (files : List File) (infos : List Info)
      → header_files s l (records_source k.version d) empty files infos ≡ map written (zip files infos)
  files_zipped [] infos = refl
  files_zipped (f ∷ files) [] = refl
  files_zipped (f ∷ files) (i ∷ infos) = ap (λ fs. written (f, i) ∷ fs) (files_zipped files infos)

  -- what holds of each file as it was built holds of each as it is recorded
  all_written : (P : WrittenFile → Type 0) → All (λ p. P (written p)) (zip k.files k.infos)
      → All P (tables_with s l k d empty).files
  all_written P all =
      subst (All P) (sym (files_zipped k.files k.infos)) (All-map P written (zip k.files k.infos) all)

  listed : {A : Type 0} (P : A → Type 0) (xs : List A) → All P xs → All P (listed_directories k.version xs)
  listed P xs all = by (nat_le k.version 4)
    where
      by : (b : Bool) → All P (cond b (drop 1 xs) xs)
      by true = All-drop P 1 xs all
      by false = all

  module _ (consistent : IsConsistent k.version k.directories k.files k.infos) (fit : All InfoFits k.infos)
      (sources_free : All SourceHasNoZero k.infos) (empty_free : HasNoZero empty) (few : length k.directories < 2 ^ 64)
    where
      abbrev FileSound : File → Type 0
      FileSound f = HasNoZero f.path × (f.directory < length k.directories)

      abbrev InfoSound : Info → Type 0
      InfoSound i = InfoFits i × SourceHasNoZero i

      plain_source : (o : Option Text) → records_source k.version d ≡ false
          → source_text s l (records_source k.version d) empty o ≡ in_header []
      plain_source o none = ap (λ b. source_text s l b empty o) none

      source_free : (b : Bool) (o : Option Text) → IfSome o HasNoZero → HasNoZero (source_text s l b empty o)
      source_free true (Some t) free = text_zero_free s l t free
      source_free true None free = text_zero_free s l empty empty_free
      source_free false o free = All-nil (λ b. b ≢ 0)

      file_reads_back : (p : File × Info) → FileSound p.0 × InfoSound p.1 → FileReadsBack (written p)
      file_reads_back p h = record {
        path = text_zero_free s l p.0.path h.0.0;
        directory = omega (arith, few, h.0.1);
        timestamp = h.1.0.timestamp;
        size = h.1.0.size;
        md5 = h.1.0.md5;
        source = source_free (records_source k.version d) p.1.source h.1.1;
      }

      filled_directories : k.version ≤ 4 → All HasBytes (listed_directories k.version k.directories)
      filled_directories old = subst (λ b. All HasBytes (cond b (drop 1 k.directories) k.directories))
          (sym (le-leb k.version 4 old)) (consistent.directories_not_empty old)

      -- what the builder knows of its tables
      pub tables_read_back : TablesReadBack k.version (tables_with s l k d empty)
      tables_read_back = record {
        directories = All-map HasNoZero (header_text s l) (listed_directories k.version k.directories)
            (All-weaker HasNoZero (λ t. HasNoZero (header_text s l t)) (λ t h. text_zero_free s l t h)
            (listed_directories k.version k.directories)
            (listed HasNoZero k.directories consistent.directories_zero_free));
        files = all_written FileReadsBack (All-weaker (λ (p : File × Info). FileSound p.0 × InfoSound p.1)
            (λ (p : File × Info). FileReadsBack (written p)) file_reads_back (zip k.files k.infos)
            (All-zip FileSound InfoSound k.files k.infos
            (All-both (λ (f : File). HasNoZero f.path) (λ (f : File). f.directory < length k.directories) k.files
            consistent.paths_zero_free consistent.in_directories)
            (All-both InfoFits SourceHasNoZero k.infos fit sources_free)));
        no_sources = λ none. all_written (λ f. f.source ≡ in_header [])
            (λ n p h. plain_source (get_or (zip k.files k.infos) n p).1.source none);
        directories_not_empty = λ old. All-map HasBytes (header_text s l) (listed_directories k.version k.directories)
            (All-weaker HasBytes (λ t. HasBytes (header_text s l t)) (λ t h. text_filled s l t h)
            (listed_directories k.version k.directories) (filled_directories old));
        paths_not_empty = λ old. all_written (λ f. HasBytes f.path)
            (All-weaker (λ (p : File × Info). HasBytes p.0.path × InfoFits p.1)
            (λ (p : File × Info). HasBytes (written p).path) (λ p h. text_filled s l p.0.path h.0)
            (zip k.files k.infos)
            (All-zip (λ (f : File). HasBytes f.path) InfoFits k.files k.infos (consistent.paths_not_empty old) fit));
      }

  -- ---- offsets

  module _ (known : AllKnown s l k d empty) (limit : ℕ) (strings_fit : length (section_of s) ≤ limit)
      (line_strings_fit : length (section_of l) ≤ limit) where
    pub directories_below : All (IsBelow limit) (tables_with s l k d empty).directories
    directories_below = All-map (IsBelow limit) (header_text s l) (listed_directories k.version k.directories)
        (All-weaker (IsKnown s l) (λ t. IsBelow limit (header_text s l t))
        (λ t h. text_below s l limit strings_fit line_strings_fit t h) (listed_directories k.version k.directories)
        (listed (IsKnown s l) k.directories known.directories))

    source_below : (b : Bool) (o : Option Text) → (b ≡ true → IsKnown s l (unwrap_or o empty))
        → IsBelow limit (source_text s l b empty o)
    source_below true o h = text_below s l limit strings_fit line_strings_fit (unwrap_or o empty) (h refl)
    source_below false o h = tt

    pub files_below : All (FileBelow limit) (tables_with s l k d empty).files
    files_below = all_written (FileBelow limit) (All-weaker (λ (p : File × Info). IsKnown s l p.0.path
        × (records_source k.version d ≡ true → IsKnown s l (unwrap_or p.1.source empty)))
        (λ (p : File × Info). FileBelow limit (written p))
        (λ p h. record {
          path = text_below s l limit strings_fit line_strings_fit p.0.path h.0;
          source = source_below (records_source k.version d) p.1.source h.1;
        }) (zip k.files k.infos) (All-zip (λ (f : File). IsKnown s l f.path)
        (λ (i : Info). records_source k.version d ≡ true → IsKnown s l (unwrap_or i.source empty)) k.files k.infos
        known.paths (λ n i h present. known.sources present n i h)))

  -- ---- what a reader gets

  module _ (known : AllKnown s l k d empty) (free : All IsText s) (line_free : All IsText l)
      (empty_is : bytes_of_text s l empty ≡ Some []) (str line_str : View) (in_str : Holds s str)
      (in_line_str : Holds l line_str) where
    again : (is_big : Bool) (n : ℕ) (t : Text) → IsKnown s l t
        → text_read str line_str (value_of_text is_big n (header_text s l t)) ≡ bytes_of_text s l t
    again = text_again s l free line_free str line_str in_str in_line_str

    pub directories_read : (e : Encoding) (is_big : Bool) (first : ℕ)
        → map (text_read str line_str) (directory_values e is_big first (tables_with s l k d empty).directories)
        ≡ map (bytes_of_text s l) (listed_directories k.version k.directories)
    directories_read e is_big first =
        values_read (header_text s l) (spelled_text is_big e.format) (value_of_text is_big) (text_read str line_str)
        (bytes_of_text s l) (listed_directories k.version k.directories)
        (first + entries_offset e (formats_of_directories (tables_with s l k d empty).directories)
        (length (tables_with s l k d empty).directories))
        (All-weaker (IsKnown s l) (λ t. (n : ℕ) → text_read str line_str (value_of_text is_big n (header_text s l t))
        ≡ bytes_of_text s l t) (λ t h n. again is_big n t h) (listed_directories k.version k.directories)
        (listed (IsKnown s l) k.directories known.directories))

    -- a file whose texts are known
    abbrev pub FileKnown : File × Info → Type 0
    FileKnown p = IsKnown s l p.0.path
        × (records_source k.version d ≡ true → IsKnown s l (unwrap_or p.1.source empty))

    files_known : All FileKnown (zip k.files k.infos)
    files_known = All-zip (λ (f : File). IsKnown s l f.path)
        (λ (i : Info). records_source k.version d ≡ true → IsKnown s l (unwrap_or i.source empty)) k.files k.infos
        known.paths (λ n i h present. known.sources present n i h)

    -- a file as it was built, by whether its version is at most 4
    abbrev built_at : Bool → File × Info → FileRead
    built_at old p = record {
      path = bytes_of_text s l p.0.path;
      directory = p.0.directory;
      timestamp = if old || d.has_timestamp then p.1.timestamp else 0;
      size = if old || d.has_size then p.1.size else 0;
      md5 = if not old && d.has_md5 then p.1.md5 else no_md5;
      source = if not old && d.has_source then Some (source_bytes s l p.1.source) else None;
    }

    -- and as a header records it
    abbrev written_at : Bool → File × Info → WrittenFile
    written_at old p = header_file s l (not old && d.has_source) empty p.0 p.1

    file_to_4 : (is_big : Bool) (n : ℕ) (p : File × Info) → FileKnown p → nat_le k.version 4 ≡ true
        → file_read str line_str (file_facts_to_4 is_big n (written p)) ≡ file_built s l k.version d p
    file_to_4 is_big n p h old =
        let by_path : Option (List ℕ) → FileRead = λ t. record {
          path = t;
          directory = p.0.directory;
          timestamp = p.1.timestamp;
          size = p.1.size;
          md5 = no_md5;
          source = None;
        } in
        subst (λ b. file_read str line_str (file_facts_to_4 is_big n (written_at b p)) ≡ built_at b p) (sym old)
        (ap by_path (again is_big n p.0.path h.0))

    source_again : (is_big : Bool) (n : ℕ) (o : Option Text) → IsKnown s l (unwrap_or o empty)
        → text_read str line_str (value_of_text is_big n (header_text s l (unwrap_or o empty))) ≡ source_bytes s l o
    source_again is_big n (Some t) h = again is_big n t h
    source_again is_big n None h = again is_big n empty h ∙ empty_is

    -- the text of a file, if it is recorded
    source_read : (is_big : Bool) (n : ℕ) (o : Option Text) (b : Bool) → (b ≡ true → IsKnown s l (unwrap_or o empty))
        → option_map (text_read str line_str) (cond b (Some (value_of_text is_big n (source_text s l b empty o))) None)
        ≡ cond b (Some (source_bytes s l o)) None
    source_read is_big n o true h = ap Some (source_again is_big n o (h refl))
    source_read is_big n o false h = refl

    file_of_5 : (is_big : Bool) (format : Format) (n : ℕ) (p : File × Info) → FileKnown p → nat_le k.version 4 ≡ false
        → file_read str line_str (file_facts is_big format (details_of d) n (written p)) ≡ file_built s l k.version d p
    file_of_5 is_big format n p h new =
        let sized = n + length (spelled_fields (leading_fields is_big format (details_of d) (written_at false p))) in
        let present : d.has_source ≡ true → records_source k.version d ≡ true = λ has. rw (new, has) refl in
        let by_texts : Option (List ℕ) → Option (Option (List ℕ)) → FileRead = λ t o. record {
          path = t;
          directory = p.0.directory;
          timestamp = if d.has_timestamp then p.1.timestamp else 0;
          size = if d.has_size then p.1.size else 0;
          md5 = if d.has_md5 then p.1.md5 else no_md5;
          source = o;
        } in
        let source = source_read is_big sized p.1.source d.has_source (λ has. h.1 (present has)) in
        subst (λ b. file_read str line_str (file_facts is_big format (details_of d) n (written_at b p)) ≡ built_at b p)
        (sym new)
        (ap (λ t. by_texts t (option_map (text_read str line_str)
        (cond d.has_source (Some (value_of_text is_big sized (source_text s l d.has_source empty p.1.source))) None)))
        (again is_big n p.0.path h.0)
        ∙ ap (λ o. by_texts (bytes_of_text s l p.0.path) o) source)

    pub files_read : (e : Encoding) (is_big : Bool) (first : ℕ) → e.version ≡ k.version
        → map (file_read str line_str) (facts_of_files e is_big first (tables_with s l k d empty))
        ≡ map (file_built s l k.version d) (zip k.files k.infos)
    files_read e is_big first same = by (nat_le e.version 4) refl
      where
        zipped : (tables_with s l k d empty).files ≡ map written (zip k.files k.infos)
        zipped = files_zipped k.files k.infos

        entries : ℕ
        entries = first + entries_offset e (formats_of_files (tables_with s l k d empty))
            (length (tables_with s l k d empty).files)

        by : (b : Bool) → nat_le e.version 4 ≡ b → map (file_read str line_str)
            (cond b (values_at (spelled_file_to_4 is_big e.format) (file_facts_to_4 is_big) first
            (tables_with s l k d empty).files)
            (values_at (spelled_file is_big e.format (details_of d)) (file_facts is_big e.format (details_of d)) entries
            (tables_with s l k d empty).files))
            ≡ map (file_built s l k.version d) (zip k.files k.infos)
        by true old =
            let here : nat_le k.version 4 ≡ true = ap (λ v. nat_le v 4) (sym same) ∙ old in
            ap (λ fs. map (file_read str line_str) (values_at (spelled_file_to_4 is_big e.format)
            (file_facts_to_4 is_big) first fs)) zipped
            ∙ values_read written (spelled_file_to_4 is_big e.format) (file_facts_to_4 is_big) (file_read str line_str)
            (file_built s l k.version d) (zip k.files k.infos) first
            (All-weaker FileKnown (λ (p : File × Info). (n : ℕ) → file_read str line_str
            (file_facts_to_4 is_big n (written p)) ≡ file_built s l k.version d p)
            (λ p h n. file_to_4 is_big n p h here) (zip k.files k.infos) files_known)
        by false new =
            let here : nat_le k.version 4 ≡ false = ap (λ v. nat_le v 4) (sym same) ∙ new in
            ap (λ fs. map (file_read str line_str) (values_at (spelled_file is_big e.format (details_of d))
            (file_facts is_big e.format (details_of d)) entries fs)) zipped
            ∙ values_read written (spelled_file is_big e.format (details_of d))
            (file_facts is_big e.format (details_of d)) (file_read str line_str) (file_built s l k.version d)
            (zip k.files k.infos) entries
            (All-weaker FileKnown (λ (p : File × Info). (n : ℕ) → file_read str line_str
            (file_facts is_big e.format (details_of d) n (written p)) ≡ file_built s l k.version d p)
            (λ p h n. file_of_5 is_big e.format n p h here) (zip k.files k.infos) files_known)
