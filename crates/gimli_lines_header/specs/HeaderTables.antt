-- The tables of directories and files in a header (DWARF 5, 6.2.4; up to version 4: DWARF 4,
-- 6.2.4).
use Rattle.std.specs.Prelude.{ℕ, ◌==◌, nat_le, List, [], Option, Some, None}
use Rattle.gimli_units_headers.specs.View.{View, bytes_left}
use Rattle.gimli_units_headers.specs.Parsers.{Parser, ◌>>=◌, give, branch, null_terminated}
use Rattle.gimli_units_headers.specs.Repetition.{all_of, times}
use Rattle.gimli_units_headers.specs.Encoding.{Encoding}
use Rattle.gimli_units_headers.specs.NumberParsers.{unsigned}
use Rattle.gimli_units_forms.specs.AttributeValues.{RawValue, string}
use Rattle.gimli_lines_header.specs.declared.formats.FileEntryFormat.{FileEntryFormat}
use Rattle.gimli_lines_header.specs.LineFiles.{FileFacts, file_in}
use Rattle.gimli_lines_header.specs.TableEntries.{entry_formats, directory_entry, file_entry}

-- ---- up to version 4: texts, up to an empty one

-- a directory, or none at the empty text
unfoldable pub directory_text : Parser (Option RawValue)
directory_text = do
  text ← null_terminated
  branch (bytes_left text == 0) (give None) (give (Some (string text)))

-- what follows the path of a file: the number of its directory, the time of its last modification,
-- its size
unfoldable pub file_after_path : View → Parser FileFacts
file_after_path path = do
  directory_index ← unsigned
  timestamp ← unsigned
  size ← unsigned
  give (file_in path directory_index timestamp size)

-- a file, or none at the empty path
unfoldable pub file_text : Parser (Option FileFacts)
file_text = do
  path ← null_terminated
  branch (bytes_left path == 0) (give None) (file_after_path path >>= λ file. give (Some file))

-- the directories up to an empty text
unfoldable pub directory_texts : Parser (List RawValue)
directory_texts = all_of bytes_left directory_text

-- the files up to an empty path
unfoldable pub file_texts : Parser (List FileFacts)
file_texts = all_of bytes_left file_text

-- ---- in version 5: formats, and as many entries as a number says

-- the directories in formats
unfoldable pub directory_entries : ℕ → Encoding → List FileEntryFormat
    → Parser (List RawValue)
directory_entries limit e formats = do
  count ← unsigned
  times count (directory_entry limit e formats)

-- the files in formats
unfoldable pub file_entries : ℕ → Encoding → List FileEntryFormat → Parser (List FileFacts)
file_entries limit e formats = do
  count ← unsigned
  times count (file_entry limit e formats)

-- ---- in every version: the formats, none up to version 4, and what they describe

-- the directories in version 5
unfoldable pub directories_of_5 : ℕ → Encoding
    → Parser (List FileEntryFormat × List RawValue)
directories_of_5 limit e = do
  formats ← entry_formats
  directories ← directory_entries limit e formats
  give (formats, directories)

-- the directories in every version
unfoldable pub directories : ℕ → Encoding → Parser (List FileEntryFormat × List RawValue)
directories limit e = branch (nat_le e.version 4) (directory_texts >>= λ texts. give ([], texts))
    (directories_of_5 limit e)

-- the files in version 5
unfoldable pub files_of_5 : ℕ → Encoding → Parser (List FileEntryFormat × List FileFacts)
files_of_5 limit e = do
  formats ← entry_formats
  files ← file_entries limit e formats
  give (formats, files)

-- the files in every version
unfoldable pub files : ℕ → Encoding → Parser (List FileEntryFormat × List FileFacts)
files limit e =
    branch (nat_le e.version 4) (file_texts >>= λ texts. give ([], texts)) (files_of_5 limit e)
