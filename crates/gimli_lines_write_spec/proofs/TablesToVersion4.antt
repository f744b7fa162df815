-- Directories and files up to version 4 are read again.
use Rattle.std.proofs.Common.{ℕ, ◌+◌, ◌<◌, ◌^◌, Bool, cond, List, [], ◌∷◌, ◌++◌, length, Option, Some, None, Result, Ok, refl, ap}
use Rattle.std.specs.Prelude.{◌==◌, flat_map, All, replicate}
use Rattle.std.proofs.lemmas.Bool.{ne_eqb}
use Rattle.gimli_lines_write_rows.specs.Error.{Error}
use Rattle.gimli_lines_write_rows.specs.View.{View, bytes_left}
use Rattle.gimli_lines_write_rows.specs.Parsers.{Parser, give, branch, ◌>>=◌}
use Rattle.gimli_lines_write_rows.specs.Format.{Format}
use Rattle.gimli_lines_write_rows.specs.Spelling.{unsigned_string}
use Rattle.gimli_lines_header.specs.LineFiles.{FileFacts, file_in}
use Rattle.gimli_lines_header.specs.HeaderTables.{directory_text, file_text, file_after_path, directory_texts, file_texts}
use Rattle.gimli_lines_header.proofs.TextSizes.{directory_text-shrinks, file_text-shrinks}
use Rattle.gimli_lines_write_spec.specs.HeaderTexts.{Text, in_header, of_strings, of_line_strings, spelled_text, value_of_text, IsReadableText, IsEntry}
use Rattle.gimli_lines_write_spec.specs.EntryFields.{WrittenFile, IsReadableFile}
use Rattle.gimli_lines_write_spec.specs.HeaderSpelling.{spelled_file_to_4, file_facts_to_4}
use Rattle.gimli_lines_write_rows.proofs.FollowedReads.{Again, again_onward, again_then, again_same, again_unsigned, null_again, all_again}
use Rattle.gimli_lines_write_spec.proofs.FieldsAgain.{ended_again}
use Rattle.gimli_lines_write_rows.specs.BytesAt.{bytes_at, values_at}

-- an entry of the directories
directory_again : (limit : ℕ) (format : Format) (is_big : Bool) (first : ℕ) (t : Text)
    → IsReadableText limit format t → IsEntry t
    → Again is_big first directory_text (Some (value_of_text is_big first t)) (spelled_text is_big format t)
unfolding directory_text
directory_again limit format is_big first (in_header text) well_formed is =
    again_then _ (ended_again is_big first text well_formed) (λ v. rw (ne_eqb (length text) 0 is) refl)
directory_again limit format is_big first (of_strings offset) well_formed is = absurd is
directory_again limit format is_big first (of_line_strings offset) well_formed is = absurd is

-- the empty text that ends them
end_again : (is_big : Bool) (first : ℕ) → Again is_big first directory_text None (0 ∷ [])
unfolding directory_text
end_again is_big first = again_then _ (null_again is_big first [] refl) (λ v. refl)

-- what follows a path
after_again : (is_big : Bool) (first : ℕ) (path : View) (directory timestamp size : ℕ) → directory < 2 ^ 64
    → timestamp < 2 ^ 64 → size < 2 ^ 64
    → Again is_big first (file_after_path path) (file_in path directory timestamp size)
    (unsigned_string directory ++ (unsigned_string timestamp ++ unsigned_string size))
unfolding file_after_path
after_again is_big first path directory timestamp size d t s =
    again_onward _ (again_unsigned is_big first directory d)
    (again_onward _ (again_unsigned is_big (first + length (unsigned_string directory)) timestamp t)
    (again_then _ (again_unsigned is_big
    (first + length (unsigned_string directory) + length (unsigned_string timestamp)) size s) (λ v. refl)))

-- a file
file_again : (limit : ℕ) (format : Format) (is_big : Bool) (first : ℕ) (path : Text) (f : WrittenFile)
    → IsReadableFile limit format f → IsReadableText limit format path → IsEntry path
    → Again is_big first file_text (Some
    (record {
      path = value_of_text is_big first path;
      directory_index = f.directory;
      timestamp = f.timestamp;
      size = f.size;
      md5 = replicate 16 0;
      source = None;
    }))
    (spelled_text is_big format path ++ (unsigned_string f.directory
    ++ (unsigned_string f.timestamp ++ unsigned_string f.size)))
unfolding file_text
file_again limit format is_big first (in_header text) f well_formed free is =
    let name = bytes_at is_big first text in
    let file_parser : Parser (Option FileFacts) = file_after_path name >>= λ file. give (Some file) in
    again_onward (λ path. branch (bytes_left path == 0) (give None) (file_after_path path >>= λ file. give (Some file)))
    (ended_again is_big first text free)
    (again_same {q = branch (bytes_left name == 0) (give None) file_parser}
    (λ v. ap (λ b. cond {A = Result (Option FileFacts × View) Error} b (Ok (None, v)) (file_parser v))
    (ne_eqb (length text) 0 is))
    (again_then _ (after_again is_big (first + length (text ++ 0 ∷ [])) name f.directory f.timestamp f.size
    well_formed.directory well_formed.timestamp well_formed.size) (λ v. refl)))
file_again limit format is_big first (of_strings offset) f well_formed free is = absurd is
file_again limit format is_big first (of_line_strings offset) f well_formed free is = absurd is

file_end_again : (is_big : Bool) (first : ℕ) → Again is_big first file_text None (0 ∷ [])
unfolding file_text
file_end_again is_big first = again_then _ (null_again is_big first [] refl) (λ v. refl)

-- ---- tables

abbrev EntryStands : ℕ → Format → Text → Type 0
EntryStands limit format t = IsReadableText limit format t × IsEntry t

pub directories_again_4 : (limit : ℕ) (format : Format) (is_big : Bool) (first : ℕ) (ts : List Text)
    → All (IsReadableText limit format) ts → All IsEntry ts
    → Again is_big first directory_texts (values_at (spelled_text is_big format) (value_of_text is_big) first ts)
    (flat_map (spelled_text is_big format) ts ++ 0 ∷ [])
unfolding directory_texts
directories_again_4 limit format is_big first ts stand are =
    all_again directory_text directory_text-shrinks is_big (spelled_text is_big format) (value_of_text is_big)
    (EntryStands limit format) first ts (0 ∷ [])
    (λ n t is. directory_again limit format is_big n t is.0 is.1) (λ n. end_again is_big n)
    (λ k d h. (stand k d h, are k d h))

abbrev FileEntryStands : ℕ → Format → WrittenFile → Type 0
FileEntryStands limit format f = IsReadableFile limit format f × IsEntry f.path

pub files_again_4 : (limit : ℕ) (format : Format) (is_big : Bool) (first : ℕ) (fs : List WrittenFile)
    → All (IsReadableFile limit format) fs → All (λ (f : WrittenFile). IsEntry f.path) fs
    → Again is_big first file_texts (values_at (spelled_file_to_4 is_big format) (file_facts_to_4 is_big) first fs)
    (flat_map (spelled_file_to_4 is_big format) fs ++ 0 ∷ [])
unfolding file_texts
files_again_4 limit format is_big first fs stand are =
    all_again file_text file_text-shrinks is_big (spelled_file_to_4 is_big format) (file_facts_to_4 is_big)
    (FileEntryStands limit format) first fs (0 ∷ [])
    (λ n f is. file_again limit format is_big n f.path f is.0 is.0.path is.1) (λ n. file_end_again is_big n)
    (λ k d h. (stand k d h, are k d h))
