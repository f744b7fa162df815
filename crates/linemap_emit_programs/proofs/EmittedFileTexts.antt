-- The texts of the files of a header that was written.
use Rattle.std.proofs.Common.{◌≡◌, ◌≢◌, ℕ, zero, suc, ◌+◌, ◌-◌, ◌<◌, ◌%◌, ◌^◌, ◌==◌, Bool, true, false, cond, List, [], ◌∷◌, length, map, drop, Option, Some, None, option_map, unwrap_or, slice_get, get_or, Result, Ok, Err, refl, sym, ap, subst, ◌∙◌, arith}
use Rattle.std.specs.Prelude.{All, nat_le}
use Rattle.std.specs.List.{zip}
use Rattle.std.specs.Str.{IsUtf8}
use Rattle.std.proofs.Math.Nat.{mod-eq_of_lt}
use Rattle.std.proofs.lemmas.Bool.{ne_eqb, eqb-true, eqb-false}
use Rattle.std.proofs.lemmas.List.{length-map}
use Rattle.std.proofs.lemmas.List.Elements.{All-head, All-tail}
use Rattle.std.proofs.lemmas.Option.{slice_get-map, slice_get_within, get_or_from_slice_get, slice_get-get_or}
use Rattle.gimli_lines_write_laws.specs.FileTables.{Text, in_header, of_strings, of_line_strings, File, Info}
use Rattle.gimli_lines_write_laws.specs.HeaderContents.{listed_directories}
use Rattle.gimli_lines_write_laws.specs.ProgramReadBack.{bytes_if_read, text_read, FileRead, file_read, file_built}
use Rattle.gimli_lines_write_laws.specs.LineStrings.{bytes_of_text}
use Rattle.gimli_lines_write_program.specs.BuiltPrograms.{no_details}
use Rattle.linemap_emit_rows.specs.Error.{Error}
use Rattle.linemap_emit_rows.specs.View.{View}
use Rattle.linemap_emit_rows.specs.Results.{and_then, each, some_of}
use Rattle.linemap_emit_rows.specs.SectionReads.{string_at}
use Rattle.linemap_emit_rows.specs.BuiltRows.{raw_file}
use Rattle.linemap_emit_rows.specs.AttributeValues.{RawValue, string, string_reference, line_string_reference}
use Rattle.linemap_emit_rows.specs.LineFiles.{FileFacts, file_named}
use Rattle.linemap_emit_rows.specs.LineHeaders.{LineHeader, directory_at, file_at, from_1}
use Rattle.linemap_emit_rows.specs.DwarfFiles.{DwarfFile}
use Rattle.linemap_emit_rows.specs.UnitFacts.{UnitFacts, UnitInFile, in_file}
use Rattle.linemap_emit_rows.specs.FilePaths.{is_rooted, join, file_text_of_bytes}
use Rattle.linemap_emit_rows.specs.FileTexts.{bytes_of as bytes_in, text_bytes, text_bytes_if_any, text_of_file, text_of_file_0, texts_of_files, files_from_1}
use Rattle.linemap_emit_rows.specs.TableParts.{FilePart, UnitPart}
use Rattle.linemap_emit_rows.specs.FileText.{file_text}
use Rattle.linemap_emit_rows.proofs.FilePathLemmas.{utf8_text_is_unchanged}
use Rattle.linemap_emit_programs.specs.EmittedFiles.{EmittedFiles}
use Rattle.linemap_emit_programs.proofs.SoundFiles.{Stands, FileStands, AreSound}
use Rattle.linemap_emit_programs.proofs.PlacedFiles.{IsPlaced}

-- ---- lists

-- what is known of all items is known of the item at a place
pub all_at : {A : Type 0} (P : A → Type 0) (xs : List A) (i : ℕ) (x : A) → All P xs → slice_get xs i ≡ Some x → P x
all_at P xs i x all h = subst P (get_or_from_slice_get xs i x x h) (all i x (slice_get_within xs i x h))

-- items of two lists that are seen alike
mapped_at : {A B C : Type 0} (f : A → C) (g : B → C) (xs : List A) (ys : List B) (i : ℕ) (y : B)
    → map f xs ≡ map g ys → slice_get ys i ≡ Some y → (x : A) × (slice_get xs i ≡ Some x) × (f x ≡ g y)
mapped_at f g xs [] i y e h = absurd cc
mapped_at f g [] (z ∷ ys) i y e h = absurd cc
mapped_at {A} {B} {C} f g (x ∷ xs) (z ∷ ys) zero y e h =
    let same : z ≡ y = cc in
    let heads : f x ≡ g z = cc in (x, refl, heads ∙ ap g same)
mapped_at {A} {B} {C} f g (x ∷ xs) (z ∷ ys) (suc i) y e h =
    let tails : map f xs ≡ map g ys = cc in mapped_at f g xs ys i y tails h

after_first : {A : Type 0} (xs : List A) (n : ℕ) (x : A) → slice_get xs (suc n) ≡ Some x
    → slice_get (drop 1 xs) n ≡ Some x
after_first [] n x h = absurd cc
after_first (y ∷ xs) n x h = h

-- ---- texts

-- a text in the tables has bytes
stands_for : (version : ℕ) (line_texts : List (List ℕ)) (t : Text) → Stands version line_texts t
    → (bytes : List ℕ) × (bytes_of_text [] line_texts t ≡ Some bytes)
stands_for version line_texts (in_header bytes) h = (bytes, refl)
stands_for version line_texts (of_strings place) h = absurd h
stands_for version line_texts (of_line_strings place) h =
    (get_or line_texts place [], slice_get-get_or line_texts place [] h.1)

-- a string that can be read
string_again : (r : Result View Error) (bytes : List ℕ) → bytes_if_read r ≡ Some bytes
    → and_then r (λ text. Ok (bytes_in text)) ≡ Ok bytes
string_again (Ok v) bytes h = let e : v.bytes ≡ bytes = cc in ap (λ (l : List ℕ). Ok l) e
string_again (Err e) bytes h = absurd cc

module _ (s : DwarfFile) (facts : UnitFacts) where
  -- a text that is read is the text that lookups get
  text_again : (v : RawValue) (bytes : List ℕ)
      → text_read s.sections.debug_str s.sections.debug_line_str v ≡ Some bytes
      → text_bytes (in_file s facts) v ≡ Ok bytes
  text_again (string v) bytes h = let e : v.bytes ≡ bytes = cc in ap (λ (l : List ℕ). Ok l) e
  text_again (string_reference offset) bytes h = string_again (string_at offset s.sections.debug_str) bytes h
  text_again (line_string_reference offset) bytes h =
      string_again (string_at offset s.sections.debug_line_str) bytes h
  text_again _ bytes h = absurd cc

-- the bytes of a text that may be absent
abbrev some_bytes : List (List ℕ) → Option Text → Option (List ℕ)
some_bytes line_texts None = None
some_bytes line_texts (Some t) = bytes_of_text [] line_texts t

-- the directory of a number, where it isn't the unit's own
abbrev pub directory_bytes : EmittedFiles → ℕ → Option (List ℕ)
directory_bytes st n = cond (n == 0) None (some_bytes st.line_texts (slice_get st.tables.directories n))

-- the text of a file of a program
abbrev pub text_for : UnitPart → EmittedFiles → File → List ℕ
text_for u st f =
    file_text_of_bytes (Some u.directory) (directory_bytes st f.directory)
    (unwrap_or (bytes_of_text [] st.line_texts f.path) [])

-- the text of a unit's own name
abbrev pub unit_text : UnitPart → List ℕ
unit_text u = file_text_of_bytes (Some u.directory) None u.name

-- the texts of a unit's files by their numbers: up to version 4 its own name is before them
abbrev pub unit_texts : UnitPart → EmittedFiles → List (List ℕ)
unit_texts u st = cond (nat_le st.tables.version 4) (unit_text u ∷ map (text_for u st) st.tables.files)
    (map (text_for u st) st.tables.files)

-- a file's text is at the number of its place
pub numbered_text : (u : UnitPart) (st : EmittedFiles) (place : ℕ) (f : File)
    → slice_get st.tables.files place ≡ Some f → place + 1 < 2 ^ 64
    → slice_get (unit_texts u st) (raw_file st.tables.version place) ≡ Some (text_for u st f)
numbered_text u st place f there low = by (nat_le st.tables.version 4)
  where
    next : place + 1 ≡ suc place
    next = omega arith

    at : slice_get (map (text_for u st) st.tables.files) place ≡ Some (text_for u st f)
    at = slice_get-map (text_for u st) st.tables.files place ∙ ap (option_map (text_for u st)) there

    by : (b : Bool)
        → slice_get (cond b (unit_text u ∷ map (text_for u st) st.tables.files) (map (text_for u st) st.tables.files))
        (cond b ((place + 1) % 2 ^ 64) place) ≡ Some (text_for u st f)
    by true = ap (slice_get (unit_text u ∷ map (text_for u st) st.tables.files)) (mod-eq_of_lt low ∙ next) ∙ at
    by false = at

-- ---- a header with the tables of a unit

pub record HasUnitTables (s : DwarfFile) (h : LineHeader) (u : UnitPart) (st : EmittedFiles) (name : View) : Type 0
  where
    pub version_is : h.encoding.version ≡ st.tables.version
    pub directories_read : map (text_read s.sections.debug_str s.sections.debug_line_str) h.directories
        ≡ map (bytes_of_text [] st.line_texts) (listed_directories st.tables.version st.tables.directories)
    pub files_read : map (file_read s.sections.debug_str s.sections.debug_line_str) h.files
        ≡ map (file_built [] st.line_texts st.tables.version no_details) (zip st.tables.files st.tables.infos)
    pub unit_file_is : h.unit_file ≡ Some (file_named name)
    pub name_is : name.bytes ≡ u.name

module _ (s : DwarfFile) (facts : UnitFacts) (h : LineHeader) (u : UnitPart) (st : EmittedFiles) (name comp : View)
    (tables : HasUnitTables s h u st name) (sound : AreSound st) (within : facts.comp_dir ≡ Some comp)
    (comp_is : comp.bytes ≡ u.directory) where
  abbrev reader : UnitInFile
  reader = in_file s facts

  abbrev see : RawValue → Option (List ℕ)
  see v = text_read s.sections.debug_str s.sections.debug_line_str v

  -- the directory of a number above 0
  numbered : (n : ℕ) (t : Text) → n ≢ 0 → slice_get st.tables.directories n ≡ Some t
      → (v : RawValue) × (directory_at h n ≡ Some v) × (see v ≡ bytes_of_text [] st.line_texts t)
  numbered n t some there = by (nat_le st.tables.version 4) refl
    where
      back : n ≡ suc (n - 1)
      back = omega arith

      found : LineHeader → Bool → ℕ → Option RawValue
      found g b k = cond b (from_1 g.unit_directory g.directories k) (slice_get g.directories k)

      by : (b : Bool) → nat_le st.tables.version 4 ≡ b
          → (v : RawValue) × (directory_at h n ≡ Some v) × (see v ≡ bytes_of_text [] st.line_texts t)
      by true old =
          let listed : map see h.directories ≡ map (bytes_of_text [] st.line_texts) (drop 1 st.tables.directories) =
          tables.directories_read
          ∙ ap
          (λ b. map (bytes_of_text [] st.line_texts) (cond b (drop 1 st.tables.directories) st.tables.directories)) old
          in
          let at =
          mapped_at see (bytes_of_text [] st.line_texts) h.directories (drop 1 st.tables.directories) (n - 1) t listed
          (after_first st.tables.directories (n - 1) t (ap (slice_get st.tables.directories) (sym back) ∙ there)) in (
            at.0,
            ap (λ b. found h b n) (ap (λ v. nat_le v 4) tables.version_is ∙ old)
                ∙ ap (λ b. cond b h.unit_directory (slice_get h.directories (n - 1))) (ne_eqb n 0 some) ∙ at.1,
            at.2,
          )
      by false new =
          let listed : map see h.directories ≡ map (bytes_of_text [] st.line_texts) st.tables.directories =
          tables.directories_read
          ∙ ap
          (λ b. map (bytes_of_text [] st.line_texts) (cond b (drop 1 st.tables.directories) st.tables.directories)) new
          in
          let at =
          mapped_at see (bytes_of_text [] st.line_texts) h.directories st.tables.directories n t listed there in (
            at.0,
            ap (λ b. found h b n) (ap (λ v. nat_le v 4) tables.version_is ∙ new) ∙ at.1,
            at.2,
          )

  -- the directory of a file
  directory_again : (n : ℕ) → n < length st.tables.directories
      → text_bytes_if_any reader (cond (n == 0) None (directory_at h n)) ≡ Ok (directory_bytes st n)
  directory_again n low = by (n == 0) refl
    where
      t : Text
      t = get_or st.tables.directories n (in_header [])

      there : slice_get st.tables.directories n ≡ Some t
      there = slice_get-get_or st.tables.directories n (in_header []) low

      by : (b : Bool) → (n == 0) ≡ b
          → text_bytes_if_any reader (cond b None (directory_at h n))
          ≡ Ok (cond b None (some_bytes st.line_texts (slice_get st.tables.directories n)))
      by true none = refl
      by false some =
          let value = numbered n t (eqb-false n 0 some) there in
          let bytes = stands_for st.tables.version st.line_texts t
          (all_at (Stands st.tables.version st.line_texts) st.tables.directories n t sound.directories there) in
          ap (text_bytes_if_any reader) value.1
          ∙ ap (λ r. some_of r) (text_again s facts value.0 bytes.0 (value.2 ∙ bytes.1))
          ∙ ap (λ (o : Option (List ℕ)). Ok o) (sym (ap (some_bytes st.line_texts) there ∙ bytes.1))

  -- a file
  file_again : (x : FileFacts) (f : File) (i : Info)
      → FileStands st.tables.version st.line_texts (length st.tables.directories) f
      → file_read s.sections.debug_str s.sections.debug_line_str x
      ≡ file_built [] st.line_texts st.tables.version no_details (f, i)
      → text_of_file reader h x ≡ Ok (text_for u st f)
  file_again x f i stands same =
      let path : see x.path ≡ bytes_of_text [] st.line_texts f.path = ap (λ (r : FileRead). r.path) same in
      let number : x.directory_index ≡ f.directory = ap (λ (r : FileRead). r.directory) same in
      let bytes = stands_for st.tables.version st.line_texts f.path stands.path in
      let whole : Option (List ℕ) → Option View → List ℕ → Result (List ℕ) Error =
      λ d c p. Ok (file_text_of_bytes (option_map bytes_in c) d p) in
      ap (λ n. and_then (text_bytes_if_any reader (cond (n == 0) None (directory_at h n)))
      (λ d. and_then (text_bytes reader x.path) (λ p. whole d facts.comp_dir p))) number
      ∙ ap (λ r. and_then r (λ d. and_then (text_bytes reader x.path) (λ p. whole d facts.comp_dir p)))
      (directory_again f.directory stands.directory)
      ∙ ap (λ r. and_then r (λ p. whole (directory_bytes st f.directory) facts.comp_dir p))
      (text_again s facts x.path bytes.0 (path ∙ bytes.1))
      ∙ ap (λ c. whole (directory_bytes st f.directory) c bytes.0) within
      ∙ ap (λ (l : List ℕ). Ok (file_text_of_bytes (Some l) (directory_bytes st f.directory) bytes.0)) comp_is
      ∙ ap (λ (o : Option (List ℕ)). Ok (file_text_of_bytes (Some u.directory) (directory_bytes st f.directory)
      (unwrap_or o []))) (sym bytes.1)

  -- all files
  each_again : (xs : List FileFacts) (fs : List File) (is : List Info) → length is ≡ length fs
      → All (FileStands st.tables.version st.line_texts (length st.tables.directories)) fs
      → map (file_read s.sections.debug_str s.sections.debug_line_str) xs
      ≡ map (file_built [] st.line_texts st.tables.version no_details) (zip fs is)
      → each (text_of_file reader h) xs ≡ Ok (map (text_for u st) fs)
  each_again [] [] is same all e = refl
  each_again [] (f ∷ fs) [] same all e = absurd (omega arith)
  each_again [] (f ∷ fs) (i ∷ is) same all e = absurd cc
  each_again (x ∷ xs) [] is same all e = absurd cc
  each_again (x ∷ xs) (f ∷ fs) [] same all e = absurd (omega arith)
  each_again (x ∷ xs) (f ∷ fs) (i ∷ is) same all e =
      let P = FileStands st.tables.version st.line_texts (length st.tables.directories) in
      let heads : file_read s.sections.debug_str s.sections.debug_line_str x
      ≡ file_built [] st.line_texts st.tables.version no_details (f, i) = cc in
      let tails : map (file_read s.sections.debug_str s.sections.debug_line_str) xs
      ≡ map (file_built [] st.line_texts st.tables.version no_details) (zip fs is) = cc in
      let counts : length is ≡ length fs = omega arith in
      ap (λ r. and_then r (λ y. and_then (each (text_of_file reader h) xs) (λ ys. Ok (y ∷ ys))))
      (file_again x f i (All-head P f fs all) heads)
      ∙ ap (λ r. and_then r (λ ys. Ok (text_for u st f ∷ ys)))
      (each_again xs fs is counts (All-tail P f fs all) tails)

  -- ---- all texts

  -- all texts of a header's own files
  all_texts : each (text_of_file reader h) h.files ≡ Ok (map (text_for u st) st.tables.files)
  all_texts = each_again h.files st.tables.files st.tables.infos sound.same_length sound.files tables.files_read

  -- up to version 4 the unit's own is before them
  texts_to_4 : nat_le st.tables.version 4 ≡ true
      → texts_of_files reader h ≡ Ok (unit_text u ∷ map (text_for u st) st.tables.files)
  texts_to_4 old =
      let here : nat_le h.encoding.version 4 ≡ true = ap (λ v. nat_le v 4) tables.version_is ∙ old in
      let whole : Option View → Result (List ℕ) Error =
      λ c. Ok (file_text_of_bytes (option_map bytes_in c) None name.bytes) in
      let zeroth : text_of_file_0 reader h (file_at h 0) ≡ Ok (unit_text u) =
      ap (λ b. text_of_file_0 reader h (cond b (from_1 h.unit_file h.files 0) (slice_get h.files 0))) here
      ∙ ap (text_of_file_0 reader h) tables.unit_file_is ∙ ap whole within
      ∙ ap (λ c. Ok (file_text_of_bytes (Some c) None name.bytes)) comp_is
      ∙ ap (λ n. Ok (file_text_of_bytes (Some u.directory) None n)) tables.name_is in
      ap (λ r. and_then r (λ text. and_then (each (text_of_file reader h) (files_from_1 h))
      (λ others. Ok (text ∷ others)))) zeroth
      ∙ ap (λ b. and_then (each (text_of_file reader h) (cond b h.files (drop 1 h.files)))
      (λ others. Ok (unit_text u ∷ others))) here
      ∙ ap (λ r. and_then r (λ others. Ok (unit_text u ∷ others))) all_texts

  -- in version 5 it is the first of them
  abbrev from_zero : List FileFacts → Result (List (List ℕ)) Error
  from_zero fs =
      and_then (text_of_file_0 reader h (slice_get fs 0))
      (λ text. and_then (each (text_of_file reader h) (drop 1 fs)) (λ others. Ok (text ∷ others)))

  counted : (fs : List FileFacts) (ts : List (List ℕ)) → length ts ≢ 0
      → each (text_of_file reader h) fs ≡ Ok ts → from_zero fs ≡ Ok ts
  counted [] ts some e = let none : [] ≡ ts = cc in absurd (some (ap length (sym none)))
  counted (f ∷ fs) ts some e = e

  texts_of_5 : nat_le st.tables.version 4 ≡ false → length st.tables.files ≢ 0
      → texts_of_files reader h ≡ Ok (map (text_for u st) st.tables.files)
  texts_of_5 new some =
      let here : nat_le h.encoding.version 4 ≡ false = ap (λ v. nat_le v 4) tables.version_is ∙ new in
      ap (λ b. and_then (text_of_file_0 reader h (cond b (from_1 h.unit_file h.files 0) (slice_get h.files 0)))
      (λ text. and_then (each (text_of_file reader h) (cond b h.files (drop 1 h.files)))
      (λ others. Ok (text ∷ others)))) here
      ∙ counted h.files (map (text_for u st) st.tables.files)
      (subst (λ (n : ℕ). n ≢ 0) (sym (length-map st.tables.files (text_for u st))) some) all_texts

  pub texts_again : (nat_le st.tables.version 4 ≡ false → length st.tables.files ≢ 0)
      → texts_of_files reader h ≡ Ok (unit_texts u st)
  texts_again some = by (nat_le st.tables.version 4) refl
    where
      by : (b : Bool) → nat_le st.tables.version 4 ≡ b
          → texts_of_files reader h
          ≡ Ok (cond b (unit_text u ∷ map (text_for u st) st.tables.files) (map (text_for u st) st.tables.files))
      by true old = texts_to_4 old
      by false new = texts_of_5 new (some new)

-- ---- what the texts are

-- a rooted directory that is joined to itself is itself
joined_again : (directory : List ℕ) → is_rooted directory ≡ true → join directory directory ≡ directory
joined_again directory rooted = rw rooted refl

-- the text of a file of the table
pub placed_text : (u : UnitPart) (st : EmittedFiles) (f : FilePart) (place : ℕ) (p : IsPlaced st f place) (own : Text)
    → slice_get st.tables.directories 0 ≡ Some own → bytes_of_text [] st.line_texts own ≡ Some u.directory
    → is_rooted u.directory ≡ true → IsUtf8 u.directory → IsUtf8 f.directory → IsUtf8 f.name
    → text_for u st p.file ≡ file_text u f
placed_text u st f place p own first own_is rooted utf8 directory_utf8 name_utf8 =
    ap (λ (o : Option (List ℕ)). file_text_of_bytes (Some u.directory) (directory_bytes st p.file.directory)
    (unwrap_or o [])) p.name ∙ by (p.file.directory == 0) refl
  where
    by : (b : Bool) → (p.file.directory == 0) ≡ b
        → file_text_of_bytes (Some u.directory)
        (cond b None (some_bytes st.line_texts (slice_get st.tables.directories p.file.directory))) f.name
        ≡ file_text u f
    by false some =
        ap (λ (o : Option Text). file_text_of_bytes (Some u.directory) (some_bytes st.line_texts o) f.name)
        p.directory_there
        ∙ ap (λ (o : Option (List ℕ)). file_text_of_bytes (Some u.directory) o f.name) p.directory_name
        ∙ utf8_text_is_unchanged (Some u.directory) (Some f.directory) f.name utf8 directory_utf8 name_utf8
    by true none =
        let zeroth = eqb-true p.file.directory 0 none in
        let there : slice_get st.tables.directories 0 ≡ Some p.directory =
        ap (slice_get st.tables.directories) (sym zeroth) ∙ p.directory_there in
        let one : own ≡ p.directory = cc (first, there) in
        let same : u.directory ≡ f.directory =
        let both : Some u.directory ≡ Some f.directory =
        sym own_is ∙ ap (bytes_of_text [] st.line_texts) one ∙ p.directory_name in cc in
        utf8_text_is_unchanged (Some u.directory) None f.name utf8 tt name_utf8
        ∙ ap (λ (l : List ℕ). join l f.name) (sym (joined_again u.directory rooted))
        ∙ ap (λ (l : List ℕ). join (join u.directory l) f.name) same
