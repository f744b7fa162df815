-- What is known of all texts is known of those in a list of them.
use Rattle.std.proofs.Common.{◌≡◌, ℕ, Bool, true, false, cond, List, [], ◌∷◌, drop, map, length, refl, sym, ap, subst, ◌∙◌}
use Rattle.std.specs.Prelude.{All, nat_le}
use Rattle.std.proofs.lemmas.List.{length-map}
use Rattle.std.proofs.lemmas.List.Elements.{All-nil, All-cons, All-head, All-tail, All-drop}
use Rattle.gimli_lines_write_tables.specs.declared.line_string.LineString.{LineString}
use Rattle.gimli_lines_write_tables.specs.declared.file.FileInfo.{FileInfo}
use Rattle.gimli_lines_write_tables.specs.declared.file.FileKey.{FileKey}
use Rattle.gimli_lines_write_tables.specs.FileTables.{Text, File, Info, text_of, file_of, info_of}
use Rattle.gimli_lines_write_unit.specs.HeaderContents.{header_text, listed_directories}
use Rattle.gimli_lines_write_tables.specs.LineStrings.{IsKnown}

-- what holds of the things seen holds of those that are seen
pub All-view : {A B : Type 0} (P : B → Type 0) (see : A → B) (xs : List A) → All P (map see xs)
    → All (λ x. P (see x)) xs
All-view P see [] all = All-nil (λ x. P (see x))
All-view P see (x ∷ xs) all = All-cons (λ y. P (see y)) x xs (All-head P (see x) (map see xs) all)
    (All-view P see xs (All-tail P (see x) (map see xs) all))

module _ (strings line_strings : List (List ℕ)) (version : ℕ) where
  -- the directories that are recorded
  pub told_known : (directories : List LineString) (tables : List Text) → map text_of directories ≡ tables
      → All (IsKnown strings line_strings) tables
      → All (λ t. IsKnown strings line_strings (text_of t)) (listed_directories version directories)
  told_known directories tables same all =
      by (nat_le version 4) (All-view (IsKnown strings line_strings) text_of directories
      (subst (λ ts. All (IsKnown strings line_strings) ts) (sym same) all))
    where
      by : (b : Bool) → All (λ t. IsKnown strings line_strings (text_of t)) directories
          → All (λ t. IsKnown strings line_strings (text_of t)) (cond b (drop 1 directories) directories)
      by true h = All-drop (λ t. IsKnown strings line_strings (text_of t)) 1 directories h
      by false h = h

  map_map : (ts : List LineString) → map (λ t. header_text strings line_strings (text_of t)) ts
      ≡ map (header_text strings line_strings) (map text_of ts)
  map_map [] = refl
  map_map (t ∷ ts) = ap (λ l. header_text strings line_strings (text_of t) ∷ l) (map_map ts)

  after_first : (ts : List LineString) → map text_of (drop 1 ts) ≡ drop 1 (map text_of ts)
  after_first [] = refl
  after_first (t ∷ ts) = refl

  -- as they are written
  pub told_written : (directories : List LineString) (tables : List Text) → map text_of directories ≡ tables
      → map (λ t. header_text strings line_strings (text_of t)) (listed_directories version directories)
      ≡ map (header_text strings line_strings) (listed_directories version tables)
  told_written directories tables same = map_map (listed_directories version directories)
      ∙ ap (map (header_text strings line_strings)) (by (nat_le version 4))
    where
      by : (b : Bool) → map text_of (cond b (drop 1 directories) directories) ≡ cond b (drop 1 tables) tables
      by true = after_first directories ∙ ap (drop 1) same
      by false = same

-- as many things as are seen
pub lengths_of_views : (files : List FileKey) (infos : List FileInfo) (fs : List File) (is : List Info)
    → map file_of files ≡ fs → map info_of infos ≡ is → length is ≡ length fs → length infos ≡ length files
lengths_of_views files infos fs is one other same =
    sym (length-map infos info_of) ∙ ap length other ∙ same ∙ ap length (sym one) ∙ length-map files file_of
