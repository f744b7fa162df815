-- The directories and files of a program as they are built: each once, in the order of the first
-- adds.
use Rattle.std.specs.Prelude.{◌≡◌, ℕ, ◌<◌, ◌≤◌, nat_eq, ◌&&◌, Bool, true, false, List, [], ◌∷◌, ◌++◌, All, Option, Some, None, option_map, length, drop, replicate, set}
use Rattle.std.specs.List.{list_any}
use Rattle.std.specs.Cmp.Lexicographic.{pointwise}
pub use Rattle.gimli_lines_write_rows.specs.LineTexts.{Text, in_header, of_strings, of_line_strings, HasNoZero, HasBytes}
use Rattle.gimli_lines_write_tables.specs.StringSections.{with_item, item_index}
use Rattle.gimli_lines_write_tables.specs.declared.line_string.LineString.{LineString}
use Rattle.gimli_lines_write_tables.specs.declared.line_string.LineString.TheVariants.{String, StringRef, LineStringRef}
use Rattle.gimli_lines_write_tables.specs.declared.file.FileInfo.{FileInfo}
use Rattle.gimli_lines_write_tables.specs.declared.file.FileKey.{FileKey}

-- ---- texts

-- the text that a builder has: the texts of the tables by their places
abbrev pub text_of : LineString → Text
text_of (String bytes) = in_header bytes.items
text_of (StringRef id) = of_strings id.0
text_of (LineStringRef id) = of_line_strings id.0

-- the same text in the same place
abbrev pub is_same : Text → Text → Bool
is_same (in_header a) (in_header b) = pointwise nat_eq a b
is_same (of_strings a) (of_strings b) = nat_eq a b
is_same (of_line_strings a) (of_line_strings b) = nat_eq a b
is_same _ _ = false

-- ---- files

-- a file: its path, and the number of its directory
pub record File : Type 0 where
  pub path : Text
  pub directory : ℕ

-- the file of a key
abbrev pub file_of : FileKey → File
file_of key = record { path = text_of key.path; directory = key.directory.0 }

-- the same path in the same directory
abbrev pub is_same_file : File → File → Bool
is_same_file a b = is_same a.path b.path && nat_eq a.directory b.directory

-- what is recorded of a file: when it was modified, its size, its digest, and its text
pub record Info : Type 0 where
  pub timestamp : ℕ
  pub size : ℕ
  pub md5 : List ℕ
  pub source : Option Text

-- what a builder records of a file
abbrev pub info_of : FileInfo → Info
info_of info = record {
  timestamp = info.timestamp;
  size = info.size;
  md5 = info.md5;
  source = option_map text_of info.source;
}

-- nothing is recorded
abbrev pub no_info : Info
no_info = record { timestamp = 0; size = 0; md5 = replicate 16 0; source = None }

-- The directories, the files, and what is recorded of each file.
pub record ProgramFiles : Type 0 where
  pub version : ℕ
  pub directories : List Text
  pub files : List File
  pub infos : List Info

-- ---- adding

-- with a directory, where it isn't there yet
abbrev pub with_directory : Text → ProgramFiles → ProgramFiles
with_directory directory k = record k { directories = with_item is_same k.directories directory }

-- New information about a file that is there already replaces the old; without any, the old stays,
-- and nothing is recorded of a new file.
abbrev pub with_info : List Info → ℕ → Bool → Option Info → List Info
with_info infos place true (Some info) = set infos place info
with_info infos place true None = infos
with_info infos place false (Some info) = infos ++ info ∷ []
with_info infos place false None = infos ++ no_info ∷ []

-- with a file, where it isn't there yet, and what is recorded of it
abbrev pub with_file : File → Option Info → ProgramFiles → ProgramFiles
with_file file info k = record k {
  files = with_item is_same_file k.files file;
  infos = with_info k.infos (item_index is_same_file k.files file)
      (list_any (is_same_file file) k.files) info;
}

-- ---- what holds of every table

-- Each file has its information and its directory, and the texts fit their version.
pub record IsConsistent (version : ℕ) (directories : List Text) (files : List File)
    (infos : List Info) : Type 0 where
  pub same_length : length infos ≡ length files
  pub directories_zero_free : All HasNoZero directories
  pub paths_zero_free : All (λ (f : File). HasNoZero f.path) files
  pub in_directories : All (λ (f : File). f.directory < length directories) files
  -- up to version 4 an empty text ends a table; the first directory isn't in it
  pub directories_not_empty : version ≤ 4 → All HasBytes (drop 1 directories)
  pub paths_not_empty : version ≤ 4 → All (λ (f : File). HasBytes f.path) files
