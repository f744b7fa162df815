-- What holds of the directories and files of a unit's program as they are added.
use Rattle.std.proofs.Common.{◌≡◌, ℕ, ◌+◌, ◌<◌, ◌≤◌, Bool, true, false, cond, List, [], ◌∷◌, ◌++◌, length, None, refl, sym, ap, ◌∙◌, arith}
use Rattle.std.specs.Prelude.{All, nat_le}
use Rattle.std.specs.List.{list_any}
use Rattle.std.proofs.lemmas.List.{length-append}
use Rattle.std.proofs.lemmas.List.Elements.{All-nil, All-cons, All-push, All-weaker, All-drop}
use Rattle.std.proofs.lemmas.Option.{slice_get_within}
use Rattle.gimli_lines_write_tables.specs.StringSections.{IsText, same_bytes, with_text, text_index, item_index}
use Rattle.gimli_lines_write_tables.specs.LineStrings.{table_after}
use Rattle.gimli_lines_write_tables.specs.FileTables.{Text, in_header, of_strings, of_line_strings, File, Info, no_info, HasNoZero, HasBytes, IsConsistent, is_same, is_same_file, with_info}
use Rattle.gimli_lines_write_tables.proofs.SectionTexts.{text_at_index}
use Rattle.gimli_lines_write_tables.proofs.Additions.{All-with, place_within}
use Rattle.linemap_emit_rows.specs.Encoding.{Encoding}
use Rattle.linemap_emit_rows.specs.TableParts.{FilePart, UnitPart}
use Rattle.linemap_emit_programs.specs.EmittedFiles.{IsTableText, AllTableTexts, HasTableTexts, text_in, EmittedFiles, with_directory_text, directory_number, named_file, with_named_file, with_table_file, with_table_files, first_unit_files, unit_files}
use Rattle.linemap_emit_programs.proofs.ListPlaces.{Extends, extends_on, stays_same, item_extends, length-extended}

-- a text that stands for a text of a table, in the form of a version
abbrev pub Stands : ℕ → List (List ℕ) → Text → Type 0
Stands version line_texts (in_header bytes) = (nat_le version 4 ≡ true) × IsTableText bytes
Stands version line_texts (of_strings place) = ⊥
Stands version line_texts (of_line_strings place) = (nat_le version 4 ≡ false) × (place < length line_texts)

-- ---- a text

module _ (version : ℕ) where
  -- the texts of `.debug_line_str` stay
  pub texts_extend : (bytes : List ℕ) (line_texts : List (List ℕ))
      → Extends line_texts (table_after version bytes line_texts)
  texts_extend bytes line_texts = by (nat_le version 4)
    where
      by : (b : Bool) → Extends line_texts (cond b line_texts (with_text line_texts bytes))
      by true = stays_same line_texts
      by false = item_extends same_bytes line_texts bytes

  -- and hold no zero bytes
  pub texts_free : (bytes : List ℕ) (line_texts : List (List ℕ)) → IsTableText bytes → All IsText line_texts
      → All IsText (table_after version bytes line_texts)
  texts_free bytes line_texts is free = by (nat_le version 4)
    where
      by : (b : Bool) → All IsText (cond b line_texts (with_text line_texts bytes))
      by true = free
      by false = All-with IsText same_bytes line_texts bytes free is.0

  -- a text that is added stands for itself
  pub text_stands : (bytes : List ℕ) (line_texts : List (List ℕ)) → IsTableText bytes
      → Stands version (table_after version bytes line_texts) (text_in version line_texts bytes)
  text_stands bytes line_texts is = by (nat_le version 4) refl
    where
      by : (b : Bool) → nat_le version 4 ≡ b
          → Stands version (cond b line_texts (with_text line_texts bytes))
          (cond b (in_header bytes) (of_line_strings (text_index line_texts bytes)))
      by true old = (old, is)
      by false new = (
        new,
        slice_get_within (with_text line_texts bytes) (text_index line_texts bytes) bytes
            (text_at_index line_texts bytes),
      )

  -- and does so with more texts
  pub stands_on : (old new : List (List ℕ)) → Extends old new → (t : Text) → Stands version old t
      → Stands version new t
  stands_on old new more (in_header bytes) h = h
  stands_on old new more (of_strings place) h = h
  stands_on old new more (of_line_strings place) h =
      (h.0, let longer = length-extended old new more in let low = h.1 in omega arith)

  pub no_zero : (line_texts : List (List ℕ)) (t : Text) → Stands version line_texts t → HasNoZero t
  no_zero line_texts (in_header bytes) h = h.1.0
  no_zero line_texts (of_strings place) h = absurd h
  no_zero line_texts (of_line_strings place) h = tt

  pub not_empty : (line_texts : List (List ℕ)) (t : Text) → Stands version line_texts t → HasBytes t
  not_empty line_texts (in_header bytes) h = h.1.1
  not_empty line_texts (of_strings place) h = absurd h
  not_empty line_texts (of_line_strings place) h = tt

-- ---- tables

-- a file with such a path, in one of the directories
pub record FileStands (version : ℕ) (line_texts : List (List ℕ)) (directories : ℕ) (f : File) : Type 0 where
  pub path : Stands version line_texts f.path
  pub directory : f.directory < directories

-- The texts are in the tables, and nothing else is recorded of files.
pub record AreSound (st : EmittedFiles) : Type 0 where
  pub no_zeros : All IsText st.line_texts
  pub directories : All (Stands st.tables.version st.line_texts) st.tables.directories
  pub files : All (FileStands st.tables.version st.line_texts (length st.tables.directories)) st.tables.files
  pub plain : All (λ (i : Info). i ≡ no_info) st.tables.infos
  pub same_length : length st.tables.infos ≡ length st.tables.files

file_on : (version : ℕ) (old new : List (List ℕ)) (m n : ℕ) → Extends old new → m ≤ n → (f : File)
    → FileStands version old m f → FileStands version new n f
file_on version old new m n more longer f h = record {
  path = stands_on version old new more f.path h.path;
  directory = let low = h.directory in omega arith;
}

directory_sound : (bytes : List ℕ) (st : EmittedFiles) → IsTableText bytes → AreSound st
    → AreSound (with_directory_text bytes st)
directory_sound bytes st is sound =
    let v = st.tables.version in
    let text = text_in v st.line_texts bytes in
    let after = table_after v bytes st.line_texts in
    let more = texts_extend v bytes st.line_texts in
    let longer = length-extended st.tables.directories _ (item_extends is_same st.tables.directories text) in
    record {
      no_zeros = texts_free v bytes st.line_texts is sound.no_zeros;
      directories = All-with (Stands v after) is_same st.tables.directories text
          (All-weaker (Stands v st.line_texts) (Stands v after) (λ t h. stands_on v st.line_texts after more t h)
          st.tables.directories sound.directories) (text_stands v bytes st.line_texts is);
      files = All-weaker (FileStands v st.line_texts (length st.tables.directories))
          (FileStands v after (length (with_directory_text bytes st).tables.directories))
          (λ f h. file_on v st.line_texts after _ _ more longer f h) st.tables.files sound.files;
      plain = sound.plain;
      same_length = sound.same_length;
    }

-- what is recorded of a file that is added
infos_plain : (infos : List Info) (place : ℕ) (b : Bool) → All (λ (i : Info). i ≡ no_info) infos
    → All (λ (i : Info). i ≡ no_info) (with_info infos place b None)
infos_plain infos place true all = all
infos_plain infos place false all = All-push (λ (i : Info). i ≡ no_info) infos no_info all refl

infos_count : (infos : List Info) (files : List File) (f : File) (place : ℕ) (b : Bool)
    → length infos ≡ length files
    → length (with_info infos place b None) ≡ length (cond b files (files ++ f ∷ []))
infos_count infos files f place true same = same
infos_count infos files f place false same =
    length-append infos (no_info ∷ []) ∙ ap (λ n. n + 1) same ∙ sym (length-append files (f ∷ []))

name_sound : (directory : ℕ) (name : List ℕ) (st : EmittedFiles) → IsTableText name
    → directory < length st.tables.directories → AreSound st → AreSound (with_named_file directory name st)
name_sound directory name st is within sound =
    let v = st.tables.version in
    let f = named_file directory name st in
    let after = table_after v name st.line_texts in
    let more = texts_extend v name st.line_texts in
    let n = length st.tables.directories in
    record {
      no_zeros = texts_free v name st.line_texts is sound.no_zeros;
      directories = All-weaker (Stands v st.line_texts) (Stands v after)
          (λ t h. stands_on v st.line_texts after more t h) st.tables.directories sound.directories;
      files = All-with (FileStands v after n) is_same_file st.tables.files f
          (All-weaker (FileStands v st.line_texts n) (FileStands v after n)
          (λ g h. file_on v st.line_texts after n n more (omega arith) g h) st.tables.files sound.files)
          (record { path = text_stands v name st.line_texts is; directory = within });
      plain = infos_plain st.tables.infos (item_index is_same_file st.tables.files f)
          (list_any (is_same_file f) st.tables.files) sound.plain;
      same_length = infos_count st.tables.infos st.tables.files f (item_index is_same_file st.tables.files f)
          (list_any (is_same_file f) st.tables.files) sound.same_length;
    }

pub table_file_sound : (f : FilePart) (st : EmittedFiles) → IsTableText f.directory → IsTableText f.name
    → AreSound st → AreSound (with_table_file f st)
table_file_sound f st directory name sound =
    name_sound (directory_number f.directory st) f.name (with_directory_text f.directory st) name
    (place_within is_same st.tables.directories (text_in st.tables.version st.line_texts f.directory))
    (directory_sound f.directory st directory sound)

pub files_sound : (fs : List FilePart) (st : EmittedFiles) → AllTableTexts fs → AreSound st
    → AreSound (with_table_files fs st)
unfolding AllTableTexts with_table_files
files_sound [] st all sound = sound
files_sound (f ∷ fs) st all sound =
    files_sound fs (with_table_file f st) all.2 (table_file_sound f st all.0 all.1 sound)

-- ---- what stays

-- directories, files and texts stay as others are added
pub record StaysIn (old new : EmittedFiles) : Type 0 where
  pub version : new.tables.version ≡ old.tables.version
  pub texts : Extends old.line_texts new.line_texts
  pub directories : Extends old.tables.directories new.tables.directories
  pub files : Extends old.tables.files new.tables.files

pub stays_on : (a b c : EmittedFiles) → StaysIn a b → StaysIn b c → StaysIn a c
stays_on a b c g h = record {
  version = h.version ∙ g.version;
  texts = extends_on g.texts h.texts;
  directories = extends_on g.directories h.directories;
  files = extends_on g.files h.files;
}

pub directory_stays : (bytes : List ℕ) (st : EmittedFiles) → StaysIn st (with_directory_text bytes st)
directory_stays bytes st = record {
  version = refl;
  texts = texts_extend st.tables.version bytes st.line_texts;
  directories =
      item_extends is_same st.tables.directories (text_in st.tables.version st.line_texts bytes);
  files = stays_same st.tables.files;
}

pub name_stays : (directory : ℕ) (name : List ℕ) (st : EmittedFiles)
    → StaysIn st (with_named_file directory name st)
name_stays directory name st = record {
  version = refl;
  texts = texts_extend st.tables.version name st.line_texts;
  directories = stays_same st.tables.directories;
  files = item_extends is_same_file st.tables.files (named_file directory name st);
}

pub table_file_stays : (f : FilePart) (st : EmittedFiles) → StaysIn st (with_table_file f st)
table_file_stays f st =
    let after = with_directory_text f.directory st in
    stays_on st after (with_table_file f st) (directory_stays f.directory st)
    (name_stays (directory_number f.directory st) f.name after)

pub files_stay : (fs : List FilePart) (st : EmittedFiles) → StaysIn st (with_table_files fs st)
unfolding with_table_files
files_stay [] st = record {
  version = refl;
  texts = stays_same st.line_texts;
  directories = stays_same st.tables.directories;
  files = stays_same st.tables.files;
}
files_stay (f ∷ fs) st =
    stays_on st (with_table_file f st) (with_table_files fs (with_table_file f st)) (table_file_stays f st)
    (files_stay fs (with_table_file f st))

-- ---- a unit

pub first_sound : (e : Encoding) (u : UnitPart) (line_texts : List (List ℕ)) → HasTableTexts u
    → All IsText line_texts → AreSound (first_unit_files e u line_texts)
first_sound e u line_texts has free =
    let v = e.version in
    let one = table_after v u.directory line_texts in
    let two = table_after v u.name one in
    let directory = text_in v line_texts u.directory in
    let name = text_in v one u.name in
    record {
      no_zeros = texts_free v u.name one has.name (texts_free v u.directory line_texts has.directory free);
      directories = All-cons (Stands v two) directory []
          (stands_on v one two (texts_extend v u.name one) directory
          (text_stands v u.directory line_texts has.directory)) (All-nil (Stands v two));
      files = by_version (nat_le v 4) two name (text_stands v u.name one has.name);
      plain = plain_at (nat_le v 4);
      same_length = count_at (nat_le v 4) name;
    }
  where
    infos_at : Bool → List Info
    infos_at b = cond b [] (no_info ∷ [])

    files_at : Bool → Text → List File
    files_at b name = cond b [] (record { path = name; directory = 0 } ∷ [])

    by_version : (b : Bool) (two : List (List ℕ)) (name : Text) → Stands e.version two name
        → All (FileStands e.version two 1) (cond b [] (record { path = name; directory = 0 } ∷ []))
    by_version true two name stands = All-nil (FileStands e.version two 1)
    by_version false two name stands =
        All-cons (FileStands e.version two 1) (record { path = name; directory = 0 }) []
        (record { path = stands; directory = omega arith }) (All-nil (FileStands e.version two 1))

    plain_at : (b : Bool) → All (λ (i : Info). i ≡ no_info) (cond b [] (no_info ∷ []))
    plain_at true = All-nil (λ (i : Info). i ≡ no_info)
    plain_at false = All-cons (λ (i : Info). i ≡ no_info) no_info [] refl (All-nil (λ (i : Info). i ≡ no_info))

    count_at : (b : Bool) (name : Text) → length (infos_at b) ≡ length (files_at b name)
    count_at true name = refl
    count_at false name = refl

pub unit_sound : (e : Encoding) (u : UnitPart) (line_texts : List (List ℕ)) → HasTableTexts u
    → All IsText line_texts → AreSound (unit_files e u line_texts)
unit_sound e u line_texts has free =
    files_sound u.files (first_unit_files e u line_texts) has.files (first_sound e u line_texts has free)

-- the texts of units before stay
pub unit_texts_extend : (e : Encoding) (u : UnitPart) (line_texts : List (List ℕ))
    → Extends line_texts (unit_files e u line_texts).line_texts
unit_texts_extend e u line_texts =
    let one = table_after e.version u.directory line_texts in
    extends_on (extends_on (texts_extend e.version u.directory line_texts) (texts_extend e.version u.name one))
    (files_stay u.files (first_unit_files e u line_texts)).texts

-- ---- what a builder of tables asks

pub sound_is_consistent : (st : EmittedFiles) → AreSound st
    → IsConsistent st.tables.version st.tables.directories st.tables.files st.tables.infos
sound_is_consistent st sound =
    let v = st.tables.version in
    let ls = st.line_texts in
    let n = length st.tables.directories in
    let filled =
    All-weaker (Stands v ls) HasBytes (λ t h. not_empty v ls t h) st.tables.directories
    sound.directories in
    record {
      same_length = sound.same_length;
      directories_zero_free =
          All-weaker (Stands v ls) HasNoZero (λ t h. no_zero v ls t h) st.tables.directories sound.directories;
      paths_zero_free = All-weaker (FileStands v ls n) (λ (f : File). HasNoZero f.path)
          (λ f h. no_zero v ls f.path h.path) st.tables.files sound.files;
      in_directories = All-weaker (FileStands v ls n) (λ (f : File). f.directory < n) (λ f h. h.directory)
          st.tables.files sound.files;
      directories_not_empty = λ old. All-drop HasBytes 1 st.tables.directories filled;
      paths_not_empty = λ old. All-weaker (FileStands v ls n) (λ (f : File). HasBytes f.path)
          (λ f h. not_empty v ls f.path h.path) st.tables.files sound.files;
    }
