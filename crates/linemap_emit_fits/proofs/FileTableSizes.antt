-- How many bytes the directories and files of a unit take, and the texts of `.debug_line_str`.
use Rattle.std.proofs.Common.{◌≡◌, ℕ, ◌+◌, ◌*◌, ◌≤◌, Bool, true, false, cond, List, [], ◌∷◌, ◌++◌, length, sum_by, refl, ap, ◌∙◌, arith}
use Rattle.std.specs.Prelude.{nat_le}
use Rattle.std.specs.List.{list_any}
use Rattle.std.proofs.lemmas.List.Sums.{sum_by-cons, sum_by-append}
use Rattle.linemap_emit_units.specs.Encoding.{Encoding}
use Rattle.linemap_emit_units.specs.StringSections.{with_item, with_text, text_index, section_of}
use Rattle.linemap_emit_units.specs.LineStrings.{table_after}
use Rattle.linemap_emit_units.specs.FileTables.{Text, in_header, of_strings, of_line_strings, File, is_same, is_same_file}
use Rattle.linemap_emit_units.specs.TableParts.{FilePart, UnitPart}
use Rattle.linemap_emit_units.specs.TableWeight.{file_weight}
use Rattle.linemap_emit_units.specs.EmittedFiles.{EmittedFiles, text_in, with_directory_text, directory_number, named_file, with_table_file, with_table_files, first_unit_files, unit_files}
use Rattle.linemap_emit_fits.proofs.StringSectionSizes.{section_grows}

-- ---- texts and files

-- a text and its zero byte, or an offset
abbrev pub text_size : Text → ℕ
text_size (in_header bytes) = length bytes + 1
text_size (of_strings place) = 8
text_size (of_line_strings place) = 8

-- a path and three numbers
abbrev pub file_size : File → ℕ
file_size f = text_size f.path + 30

text_few : (version : ℕ) (line_texts : List (List ℕ)) (bytes : List ℕ)
    → text_size (text_in version line_texts bytes) ≤ length bytes + 8
text_few version line_texts bytes = by (nat_le version 4)
  where
    by : (b : Bool) → text_size (cond b (in_header bytes) (of_line_strings (text_index line_texts bytes)))
        ≤ length bytes + 8
    by true = omega arith
    by false = omega arith

-- an item more
item_few : {A : Type 0} (size : A → ℕ) (same : A → A → Bool) (items : List A) (x : A)
    → sum_by size (with_item same items x) ≤ sum_by size items + size x
item_few {A} size same items x = by (list_any (same x) items)
  where
    by : (b : Bool) → sum_by size (cond b items (items ++ x ∷ [])) ≤ sum_by size items + size x
    by true = omega arith
    by false = let whole = sum_by-append size items (x ∷ []) in let one = sum_by-cons size x [] in omega arith

-- directories and files
abbrev pub tables_size : EmittedFiles → ℕ
tables_size st = sum_by text_size st.tables.directories + sum_by file_size st.tables.files

pub files_size : (fs : List FilePart) (st : EmittedFiles)
    → tables_size (with_table_files fs st) ≤ tables_size st + sum_by file_weight fs
unfolding with_table_files
files_size [] st = omega arith
files_size (f ∷ fs) st =
    let after = with_directory_text f.directory st in
    let directory = text_in st.tables.version st.line_texts f.directory in
    let file = named_file (directory_number f.directory st) f.name after in
    let d = item_few text_size is_same st.tables.directories directory in
    let n = item_few file_size is_same_file st.tables.files file in
    let ds = text_few st.tables.version st.line_texts f.directory in
    let ns = text_few st.tables.version after.line_texts f.name in
    let rest = files_size fs (with_table_file f st) in
    let whole = sum_by-cons file_weight f fs in
    omega arith

-- the first of a unit
first_size : (e : Encoding) (u : UnitPart) (line_texts : List (List ℕ))
    → tables_size (first_unit_files e u line_texts) ≤ 46 + length u.directory + length u.name
first_size e u line_texts =
    by (nat_le e.version 4) (text_in e.version line_texts u.directory)
    (text_in e.version (table_after e.version u.directory line_texts) u.name)
    (text_few e.version line_texts u.directory)
    (text_few e.version (table_after e.version u.directory line_texts) u.name)
  where
    by : (b : Bool) (d n : Text) → text_size d ≤ length u.directory + 8 → text_size n ≤ length u.name + 8
        → sum_by text_size (d ∷ []) + sum_by file_size (cond b [] (record { path = n; directory = 0 } ∷ []))
        ≤ 46 + length u.directory + length u.name
    by true d n p q = let one = sum_by-cons text_size d [] in omega arith
    by false d n p q =
        let one = sum_by-cons text_size d [] in
        let two = sum_by-cons file_size (record { path = n; directory = 0 }) [] in omega arith

pub unit_size : (e : Encoding) (u : UnitPart) (line_texts : List (List ℕ))
    → tables_size (unit_files e u line_texts)
    ≤ 46 + length u.directory + length u.name + sum_by file_weight u.files
unit_size e u line_texts =
    let first = first_size e u line_texts in
    let all = files_size u.files (first_unit_files e u line_texts) in
    omega arith

-- ---- the texts of `.debug_line_str`

line_texts_grow : (version : ℕ) (bytes : List ℕ) (line_texts : List (List ℕ))
    → length (section_of (table_after version bytes line_texts))
    ≤ length (section_of line_texts) + (length bytes + 1)
line_texts_grow version bytes line_texts = by (nat_le version 4)
  where
    by : (b : Bool) → length (section_of (cond b line_texts (with_text line_texts bytes)))
        ≤ length (section_of line_texts) + (length bytes + 1)
    by true = omega arith
    by false = section_grows line_texts bytes

file_texts_grow : (fs : List FilePart) (st : EmittedFiles)
    → length (section_of (with_table_files fs st).line_texts)
    ≤ length (section_of st.line_texts) + sum_by file_weight fs
unfolding with_table_files
file_texts_grow [] st = omega arith
file_texts_grow (f ∷ fs) st =
    let one = line_texts_grow st.tables.version f.directory st.line_texts in
    let two = line_texts_grow st.tables.version f.name (with_directory_text f.directory st).line_texts in
    let rest = file_texts_grow fs (with_table_file f st) in
    let whole = sum_by-cons file_weight f fs in
    omega arith

pub unit_texts_grow : (e : Encoding) (u : UnitPart) (line_texts : List (List ℕ))
    → length (section_of (unit_files e u line_texts).line_texts)
    ≤ length (section_of line_texts) + (2 + length u.directory + length u.name + sum_by file_weight u.files)
unit_texts_grow e u line_texts =
    let one = line_texts_grow e.version u.directory line_texts in
    let two = line_texts_grow e.version u.name (table_after e.version u.directory line_texts) in
    let rest = file_texts_grow u.files (first_unit_files e u line_texts) in
    omega arith

-- ---- both

files_both : (fs : List FilePart) (st : EmittedFiles)
    → tables_size (with_table_files fs st) + length (section_of (with_table_files fs st).line_texts)
    ≤ tables_size st + length (section_of st.line_texts) + sum_by file_weight fs
unfolding with_table_files
files_both [] st = omega arith
files_both (f ∷ fs) st =
    let after = with_directory_text f.directory st in
    let directory = text_in st.tables.version st.line_texts f.directory in
    let file = named_file (directory_number f.directory st) f.name after in
    let d = item_few text_size is_same st.tables.directories directory in
    let n = item_few file_size is_same_file st.tables.files file in
    let ds = text_few st.tables.version st.line_texts f.directory in
    let ns = text_few st.tables.version after.line_texts f.name in
    let one = line_texts_grow st.tables.version f.directory st.line_texts in
    let two = line_texts_grow st.tables.version f.name after.line_texts in
    let rest = files_both fs (with_table_file f st) in
    let whole = sum_by-cons file_weight f fs in
    omega arith

-- the tables of a unit, and the texts of `.debug_line_str` after it
pub unit_both : (e : Encoding) (u : UnitPart) (line_texts : List (List ℕ))
    → tables_size (unit_files e u line_texts) + length (section_of (unit_files e u line_texts).line_texts)
    ≤ length (section_of line_texts) + (48 + 2 * length u.directory + 2 * length u.name + sum_by file_weight u.files)
unit_both e u line_texts =
    let first = first_size e u line_texts in
    let one = line_texts_grow e.version u.directory line_texts in
    let two = line_texts_grow e.version u.name (table_after e.version u.directory line_texts) in
    let all = files_both u.files (first_unit_files e u line_texts) in
    omega arith

-- ---- up to version 4 no text is in `.debug_line_str`

old_texts : (fs : List FilePart) (st : EmittedFiles) → nat_le st.tables.version 4 ≡ true
    → (with_table_files fs st).line_texts ≡ st.line_texts
unfolding with_table_files
old_texts [] st old = refl
old_texts (f ∷ fs) st old =
    let after = table_after st.tables.version f.directory st.line_texts in
    old_texts fs (with_table_file f st) old ∙ ap (λ (b : Bool). cond b after (with_text after f.name)) old
    ∙ ap (λ (b : Bool). cond b st.line_texts (with_text st.line_texts f.directory)) old

pub unit_old : (e : Encoding) (u : UnitPart) (line_texts : List (List ℕ)) → nat_le e.version 4 ≡ true
    → (unit_files e u line_texts).line_texts ≡ line_texts
unit_old e u line_texts old =
    let after = table_after e.version u.directory line_texts in
    old_texts u.files (first_unit_files e u line_texts) old
    ∙ ap (λ (b : Bool). cond b after (with_text after u.name)) old
    ∙ ap (λ (b : Bool). cond b line_texts (with_text line_texts u.directory)) old
