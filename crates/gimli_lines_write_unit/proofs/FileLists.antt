-- The files of two lists, one place after the other.
use Rattle.std.proofs.Common.{◌≡◌, ℕ, ◌+◌, ◌<◌, ◌≤◌, Bool, true, false, not, ◌&&◌, List, [], ◌∷◌, ◌++◌, drop, map, length, suc, get_or, refl, sym, ap, subst, ◌∙◌, arith, append_assoc}
use Rattle.std.specs.Prelude.{nat_le, flat_map, if◌then◌else◌}
use Rattle.std.proofs.lemmas.Bool.{le-leb, lt-leb}
use Rattle.std.proofs.lemmas.Grind.{flat_map-append}
use Rattle.std.proofs.lemmas.List.{append-nil}
use Rattle.gimli_lines_write_tables.specs.Format.{Format}
use Rattle.gimli_lines_write_tables.specs.Spelling.{unsigned_string}
use Rattle.gimli_lines_write_tables.specs.RowPieces.{when}
use Rattle.gimli_lines_write_tables.specs.declared.file.FileInfo.{FileInfo}
use Rattle.gimli_lines_write_tables.specs.declared.file.FileKey.{FileKey}
use Rattle.gimli_lines_write_tables.specs.FileTables.{Text, File, Info, file_of, info_of}
use Rattle.gimli_lines_write_spec.specs.HeaderTexts.{spelled_text}
use Rattle.gimli_lines_write_spec.specs.EntryFields.{WrittenFile, WrittenField, Details, spelled_fields, spelled_file}
use Rattle.gimli_lines_write_spec.specs.HeaderSpelling.{spelled_file_to_4}
use Rattle.gimli_lines_write_unit.specs.HeaderContents.{header_file, header_files}
use Rattle.gimli_lines_write_unit.specs.HeaderBytes.{details_bytes}
use Rattle.gimli_lines_write_unit.proofs.WrittenLists.{item_view}

module _ (strings line_strings : List (List ℕ)) (present : Bool) (empty : Text) where
  -- the next file, before those after it
  pub files_next : (files : List FileKey) (infos : List FileInfo) (i : ℕ) (f : FileKey) (x : FileInfo)
      → i < length files → length infos ≡ length files → f ≡ get_or files i f → x ≡ get_or infos i x
      → header_files strings line_strings present empty (map file_of (drop i files)) (map info_of (drop i infos))
      ≡ header_file strings line_strings present empty (file_of f) (info_of x)
      ∷ header_files strings line_strings present empty (map file_of (drop (i + 1) files))
      (map info_of (drop (i + 1) infos))
  files_next files infos i f x within same one other =
      ap (λ fs. header_files strings line_strings present empty fs (map info_of (drop i infos)))
      (item_view file_of files i f within one)
      ∙ ap (λ is. header_files strings line_strings present empty (file_of f ∷ map file_of (drop (i + 1) files)) is)
      (item_view info_of infos i x (subst (λ n. i < n) (sym same) within) other)

-- the files that a header lists
pub listed_files : (strings line_strings : List (List ℕ)) (present p : Bool) (empty : Text) (files : List FileKey)
    (infos : List FileInfo) (fs : List File) (is : List Info) → present ≡ p → map file_of files ≡ fs
    → map info_of infos ≡ is
    → header_files strings line_strings present empty (map file_of files) (map info_of infos)
    ≡ header_files strings line_strings p empty fs is
listed_files strings line_strings present p empty files infos fs is a b c =
    ap (λ q. header_files strings line_strings q empty (map file_of files) (map info_of infos)) a
    ∙ ap (λ xs. header_files strings line_strings p empty xs (map info_of infos)) b
    ∙ ap (λ xs. header_files strings line_strings p empty fs xs) c

-- as many files as there were
pub counted_files : (strings line_strings : List (List ℕ)) (present : Bool) (empty : Text) (files : List File)
    (infos : List Info) → length infos ≡ length files
    → length (header_files strings line_strings present empty files infos) ≡ length files
counted_files strings line_strings present empty [] infos same = refl
counted_files strings line_strings present empty (f ∷ files) [] same = absurd (cc)
counted_files strings line_strings present empty (f ∷ files) (i ∷ infos) same =
    ap suc (counted_files strings line_strings present empty files infos (omega (arith, same)))

-- up to version 4 no text of a file is written
pub no_sources_to_4 : (version : ℕ) (b : Bool) → version ≤ 4 → false ≡ (not (nat_le version 4) && b)
no_sources_to_4 version b old = sym (ap (λ c. not c && b) (le-leb version 4 old))

-- in version 5 each is, where they are recorded
pub sources_of_5 : (version : ℕ) (b : Bool) → 4 < version → b ≡ (not (nat_le version 4) && b)
sources_of_5 version b new = sym (ap (λ c. not c && b) (lt-leb version 4 new))

-- the details that files have up to version 4
abbrev pub details_to_4 : Details
details_to_4 = record { has_timestamp = true; has_size = true; has_md5 = false; has_source = false }

-- ---- the bytes of a file

-- a field where a test holds
spelled_when : (b : Bool) (x : WrittenField) → spelled_fields (when b x) ≡ (if b then x.bytes else [])
spelled_when true x = append-nil x.bytes
spelled_when false x = refl

module _ (is_big : Bool) (format : Format) where
  -- its path, its details, and its text where it is recorded
  pub file_is : (d : Details) (f : WrittenFile)
      → spelled_text is_big format f.path
      ++ (details_bytes d f ++ (if d.has_source then spelled_text is_big format f.source else []))
      ≡ spelled_file is_big format d f
  file_is d f = simp (flat_map-append {X = WrittenField} {A = ℕ}, spelled_when, append_assoc)

  -- Up to version 4 files are written as in version 5, with when each was modified and its size.
  pub files_to_4 : (files : List WrittenFile) → flat_map (spelled_file is_big format details_to_4) files
      ≡ flat_map (spelled_file_to_4 is_big format) files
  files_to_4 [] = refl
  files_to_4 (f ∷ files) =
      ap (λ l. (spelled_text is_big format f.path
      ++ (unsigned_string f.directory ++ (unsigned_string f.timestamp ++ l)))
      ++ flat_map (spelled_file is_big format details_to_4) files) (append-nil (unsigned_string f.size))
      ∙ ap (λ l. spelled_file_to_4 is_big format f ++ l) (files_to_4 files)
