-- A file of a table is added as a directory and a name.
use Rattle.std.proofs.Common.{◌≡◌, ℕ, suc, ◌+◌, ◌<◌, drop, get_or, List, [], ◌∷◌, ◌++◌, length, map, sym, ap, subst, ◌∙◌, append_assoc, arith}
use Rattle.std.proofs.Math.Seq.{drop-cons}
use Rattle.linemap_emit_rows.specs.TableParts.{FilePart}
use Rattle.gimli_lines_write_program.specs.BuiltPrograms.{Program}
use Rattle.linemap_emit_rows.specs.FileId.{FileId}
use Rattle.linemap_emit_programs.specs.EmittedFiles.{EmittedFiles, AllTableTexts, with_directory_text, directory_number, named_place, with_named_file, table_file_place, with_table_file, with_table_files, table_file_ids}
use Rattle.linemap_emit_programs.specs.ProgramFilesSoFar.{files_of, with_files, HasOneVersion}

-- what a program has after the texts and tables of files were added
files_again : (files : EmittedFiles) (p q : Program) (texts : List (List ℕ)) → q ≡ with_files files p
    → texts ≡ files.line_texts → files_of q texts ≡ files
files_again files p q texts program line_texts =
    ap (λ (x : Program). files_of x texts) program
    ∙ ap (λ (l : List (List ℕ)). record { line_texts = l; tables = files.tables }) line_texts

module _ (f : FilePart) (directory_text name : List ℕ) (p p1 p2 : Program) (texts texts1 : List (List ℕ))
    (directory : ℕ) (directory_is : directory_text ≡ f.directory) (name_is : name ≡ f.name)
    (program1 : p1 ≡ with_files (with_directory_text directory_text (files_of p texts)) p)
    (line_texts1 : texts1 ≡ (with_directory_text directory_text (files_of p texts)).line_texts)
    (number : directory ≡ directory_number directory_text (files_of p texts)) where
  abbrev st : EmittedFiles
  st = files_of p texts

  between : files_of p1 texts1 ≡ with_directory_text directory_text st
  between = files_again (with_directory_text directory_text st) p p1 texts1 program1 line_texts1

  named : with_named_file directory name (files_of p1 texts1) ≡ with_table_file f st
  named =
      ap (λ n. with_named_file n name (files_of p1 texts1)) number
      ∙ ap (λ (x : EmittedFiles). with_named_file (directory_number directory_text st) name x) between
      ∙ ap (λ (l : List ℕ). with_named_file (directory_number l st) name (with_directory_text l st)) directory_is
      ∙ ap (λ (l : List ℕ). with_named_file (directory_number f.directory st) l (with_directory_text f.directory st))
      name_is

  pub file_added : p2 ≡ with_files (with_named_file directory name (files_of p1 texts1)) p1
      → p2 ≡ with_files (with_table_file f st) p
  file_added program2 =
      program2 ∙ ap (λ (x : EmittedFiles). with_files x p1) named ∙ ap (with_files (with_table_file f st)) program1

  pub place_added : (place : ℕ) → place ≡ named_place directory name (files_of p1 texts1)
      → place ≡ table_file_place f st
  place_added place h =
      h ∙ ap (λ n. named_place n name (files_of p1 texts1)) number
      ∙ ap (λ (x : EmittedFiles). named_place (directory_number directory_text st) name x) between
      ∙ ap (λ (l : List ℕ). named_place (directory_number l st) name (with_directory_text l st)) directory_is
      ∙ ap (λ (l : List ℕ). named_place (directory_number f.directory st) l (with_directory_text f.directory st))
      name_is

-- ---- files one by one

-- What is known of a loop over files: those that are left can be added, and with them all are.
abbrev pub FilesLeft : List FilePart → Program → List (List ℕ) → List FileId → EmittedFiles → List FileId → Program
    → Type 0
FilesLeft fs p texts ids all all_ids first =
    HasOneVersion p × AllTableTexts fs × (with_files (with_table_files fs (files_of p texts)) p ≡ with_files all first)
    × ((with_table_files fs (files_of p texts)).line_texts ≡ all.line_texts)
    × (ids ++ table_file_ids fs (files_of p texts) ≡ all_ids)

pub files_left : (f : FilePart) (fs : List FilePart) (p p1 first : Program) (texts texts1 : List (List ℕ))
    (ids : List FileId) (id : FileId) (all : EmittedFiles) (all_ids : List FileId)
    → FilesLeft (f ∷ fs) p texts ids all all_ids first
    → p1 ≡ with_files (with_table_file f (files_of p texts)) p
    → texts1 ≡ (with_table_file f (files_of p texts)).line_texts → id.0 ≡ table_file_place f (files_of p texts)
    → FilesLeft fs p1 texts1 (ids ++ id ∷ []) all all_ids first
unfolding AllTableTexts with_table_files table_file_ids
files_left f fs p p1 first texts texts1 ids id all all_ids left program line_texts place =
    let next = with_table_file f (files_of p texts) in
    let again : files_of p1 texts1 ≡ next = files_again next p p1 texts1 program line_texts in (
      subst HasOneVersion (sym program) left.0,
      left.1.2,
      ap (λ (x : EmittedFiles). with_files (with_table_files fs x) p1) again
          ∙ ap (with_files (with_table_files fs next)) program ∙ left.2,
      ap (λ (x : EmittedFiles). (with_table_files fs x).line_texts) again ∙ left.3,
      append_assoc ids (id ∷ []) (table_file_ids fs (files_of p1 texts1))
          ∙ ap (λ n. ids ++ record { 0 = n } ∷ table_file_ids fs (files_of p1 texts1)) place
          ∙ ap (λ (x : EmittedFiles). ids ++ record { 0 = table_file_place f (files_of p texts) } ∷ table_file_ids fs x)
          again
          ∙ left.4,
    )

-- an item before those after it
pub first_left : {X : Type 0} (xs : List X) (i : ℕ) (x : X) → i < length xs → x ≡ get_or xs i x
    → drop i xs ≡ (x ∷ drop (i + 1) xs)
first_left xs i x inside is =
    let next : suc i ≡ i + 1 = omega arith in
    drop-cons xs i x inside ∙ ap (λ y. y ∷ drop (suc i) xs) (sym is) ∙ ap (λ n. x ∷ drop n xs) next

-- the next file of a loop
pub next_left : {X : Type 0} (see : X → FilePart) (xs : List X) (i : ℕ) (x : X) (p p1 first : Program)
    (texts texts1 : List (List ℕ)) (ids ids1 : List FileId) (id : FileId) (all : EmittedFiles) (all_ids : List FileId)
    → i < length xs → x ≡ get_or xs i x → FilesLeft (map see (drop i xs)) p texts ids all all_ids first
    → p1 ≡ with_files (with_table_file (see x) (files_of p texts)) p
    → texts1 ≡ (with_table_file (see x) (files_of p texts)).line_texts
    → id.0 ≡ table_file_place (see x) (files_of p texts) → ids1 ≡ ids ++ id ∷ []
    → FilesLeft (map see (drop (i + 1) xs)) p1 texts1 ids1 all all_ids first
next_left {X} see xs i x p p1 first texts texts1 ids ids1 id all all_ids inside is left program line_texts place more =
    subst (λ (l : List FileId). FilesLeft (map see (drop (i + 1) xs)) p1 texts1 l all all_ids first) (sym more)
    (files_left (see x) (map see (drop (i + 1) xs)) p p1 first texts texts1 ids id all all_ids
    (subst (λ (l : List X). FilesLeft (map see l) p texts ids all all_ids first) (first_left xs i x inside is) left)
    program line_texts place)
