-- The files of a table are among those of a program, each at its place.
use Rattle.std.proofs.Common.{◌≡◌, ℕ, zero, suc, ◌+◌, ◌<◌, ◌≤◌, ◌%◌, ◌^◌, Bool, true, false, cond, List, [], ◌∷◌, length, Some, slice_get, refl, subst, arith}
use Rattle.std.specs.Prelude.{nat_le}
use Rattle.gimli_lines_write_tables.specs.StringSections.{with_text, text_index}
use Rattle.gimli_lines_write_tables.specs.LineStrings.{table_after}
use Rattle.gimli_lines_write_tables.specs.FileTables.{Text, in_header, of_strings, of_line_strings, File, is_same, is_same_file}
use Rattle.gimli_lines_write_tables.proofs.SectionTexts.{text_at_index}
use Rattle.gimli_lines_write_tables.proofs.Additions.{place_within}
use Rattle.gimli_lines_write_laws.specs.LineStrings.{bytes_of_text}
use Rattle.linemap_emit_rows.specs.Encoding.{Encoding}
use Rattle.linemap_emit_rows.specs.TableParts.{FilePart, UnitPart}
use Rattle.linemap_emit_programs.specs.EmittedFiles.{text_in, EmittedFiles, with_directory_text, directory_number, named_file, with_table_file, table_file_place, with_table_files, table_file_ids, first_unit_files, unit_file_ids, place_in, file_number}
use Rattle.linemap_emit_programs.proofs.ListPlaces.{Extends, get_extended, length-extended, length-with_item, item_there, texts_equal, files_equal}
use Rattle.linemap_emit_programs.proofs.SoundFiles.{texts_extend, StaysIn, files_stay}

-- a text that was added is the text of its bytes
pub text_is : (version : ℕ) (bytes : List ℕ) (line_texts : List (List ℕ))
    → bytes_of_text [] (table_after version bytes line_texts) (text_in version line_texts bytes) ≡ Some bytes
text_is version bytes line_texts = by (nat_le version 4)
  where
    by : (b : Bool) → bytes_of_text [] (cond b line_texts (with_text line_texts bytes))
        (cond b (in_header bytes) (of_line_strings (text_index line_texts bytes))) ≡ Some bytes
    by true = refl
    by false = text_at_index line_texts bytes

-- and stays so
pub text_stays : (old new : List (List ℕ)) → Extends old new → (t : Text) (bytes : List ℕ)
    → bytes_of_text [] old t ≡ Some bytes → bytes_of_text [] new t ≡ Some bytes
text_stays old new more (in_header text) bytes h = h
text_stays old new more (of_strings place) bytes h = h
text_stays old new more (of_line_strings place) bytes h = get_extended old new place bytes more h

-- a file of the table at a place
pub record IsPlaced (st : EmittedFiles) (f : FilePart) (place : ℕ) : Type 0 where
  pub file : File
  pub there : slice_get st.tables.files place ≡ Some file
  pub name : bytes_of_text [] st.line_texts file.path ≡ Some f.name
  pub directory : Text
  pub directory_there : slice_get st.tables.directories file.directory ≡ Some directory
  pub directory_name : bytes_of_text [] st.line_texts directory ≡ Some f.directory

placed_on : (old new : EmittedFiles) (f : FilePart) (place : ℕ) → StaysIn old new → IsPlaced old f place
    → IsPlaced new f place
placed_on old new f place stays p = record {
  file = p.file;
  there = get_extended old.tables.files new.tables.files place p.file stays.files p.there;
  name = text_stays old.line_texts new.line_texts stays.texts p.file.path f.name p.name;
  directory = p.directory;
  directory_there =
      get_extended old.tables.directories new.tables.directories p.file.directory p.directory stays.directories
      p.directory_there;
  directory_name =
      text_stays old.line_texts new.line_texts stays.texts p.directory f.directory p.directory_name;
}

file_placed : (f : FilePart) (st : EmittedFiles) → IsPlaced (with_table_file f st) f (table_file_place f st)
file_placed f st =
    let v = st.tables.version in
    let after = with_directory_text f.directory st in
    let directory = text_in v st.line_texts f.directory in
    let file = named_file (directory_number f.directory st) f.name after in
    record {
      file = file;
      there = item_there is_same_file files_equal st.tables.files file;
      name = text_is v f.name after.line_texts;
      directory = directory;
      directory_there = item_there is_same texts_equal st.tables.directories directory;
      directory_name =
          text_stays after.line_texts (table_after v f.name after.line_texts) (texts_extend v f.name after.line_texts)
          directory f.directory (text_is v f.directory st.line_texts);
    }

-- each file of a list
pub files_placed : (fs : List FilePart) (st : EmittedFiles) (i : ℕ) (f : FilePart) → slice_get fs i ≡ Some f
    → IsPlaced (with_table_files fs st) f (place_in (table_file_ids fs st) i)
unfolding with_table_files table_file_ids
files_placed [] st i f h = absurd cc
files_placed (g ∷ fs) st zero f h =
    let same : g ≡ f = cc in
    subst (λ (x : FilePart). IsPlaced (with_table_files fs (with_table_file g st)) x (table_file_place g st)) same
    (placed_on (with_table_file g st) (with_table_files fs (with_table_file g st)) g (table_file_place g st)
    (files_stay fs (with_table_file g st)) (file_placed g st))
files_placed (g ∷ fs) st (suc i) f h = files_placed fs (with_table_file g st) i f h

-- ---- how many there are

-- no place is above their number
pub place_low : (fs : List FilePart) (st : EmittedFiles) (i : ℕ)
    → place_in (table_file_ids fs st) i ≤ length (with_table_files fs st).tables.files
unfolding with_table_files table_file_ids
place_low [] st i = omega arith
place_low (f ∷ fs) st zero =
    let after = with_directory_text f.directory st in
    let low =
    place_within is_same_file st.tables.files (named_file (directory_number f.directory st) f.name after) in
    let longer =
    length-extended (with_table_file f st).tables.files _ (files_stay fs (with_table_file f st)).files in
    omega arith
place_low (f ∷ fs) st (suc i) = place_low fs (with_table_file f st) i

pub files_few : (fs : List FilePart) (st : EmittedFiles)
    → length (with_table_files fs st).tables.files ≤ length st.tables.files + length fs
unfolding with_table_files
files_few [] st = omega arith
files_few (f ∷ fs) st =
    let after = with_directory_text f.directory st in
    let one =
    length-with_item is_same_file st.tables.files
    (named_file (directory_number f.directory st) f.name after) in
    let rest = files_few fs (with_table_file f st) in
    omega arith

pub directories_few : (fs : List FilePart) (st : EmittedFiles)
    → length (with_table_files fs st).tables.directories ≤ length st.tables.directories + length fs
unfolding with_table_files
directories_few [] st = omega arith
directories_few (f ∷ fs) st =
    let one = length-with_item is_same st.tables.directories (text_in st.tables.version st.line_texts f.directory) in
    let rest = directories_few fs (with_table_file f st) in
    omega arith

-- the places of a unit's files
pub place_is_low : (e : Encoding) (u : UnitPart) (line_texts : List (List ℕ)) → length u.files < 2 ^ 31 → (i : ℕ)
    → place_in (unit_file_ids e u line_texts) i < 2 ^ 63
place_is_low e u line_texts few i =
    let low = place_low u.files first i in
    let n = files_few u.files first in
    let one : length first.tables.files ≤ 1 =
    first_few (nat_le e.version 4)
    (record { path = text_in e.version (table_after e.version u.directory line_texts) u.name; directory = 0 }) in
    omega arith
  where
    first : EmittedFiles
    first = first_unit_files e u line_texts

    own_files : Bool → File → List File
    own_files b f = cond b [] (f ∷ [])

    first_few : (b : Bool) (f : File) → length (own_files b f) ≤ 1
    first_few true f = omega arith
    first_few false f = omega arith

-- their numbers have 64 bits
pub numbers_low : (e : Encoding) (u : UnitPart) (line_texts : List (List ℕ)) → length u.files < 2 ^ 31 → (i : ℕ)
    → file_number e.version (unit_file_ids e u line_texts) i < 2 ^ 64
numbers_low e u line_texts few i =
    by (nat_le e.version 4) (place_in (unit_file_ids e u line_texts) i) (place_is_low e u line_texts few i)
  where
    by : (b : Bool) (place : ℕ) → place < 2 ^ 63 → cond b ((place + 1) % 2 ^ 64) place < 2 ^ 64
    by true place low = omega arith
    by false place low = omega arith
