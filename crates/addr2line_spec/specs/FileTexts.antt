-- The texts of a unit's files, by their numbers (DWARF 5, 6.2.4).
use Rattle.std.specs.Prelude.{ℕ, ◌==◌, nat_le, List, [], ◌∷◌, drop, Option, Some, None, option_map, Result, Ok, if◌then◌else◌}
use Rattle.gimli_lines_machine.specs.Error.{Error}
use Rattle.gimli_lines_machine.specs.View.{View}
use Rattle.gimli_dwarf_spec.specs.AttributeValues.{RawValue}
use Rattle.gimli_dwarf_spec.specs.LineFiles.{FileFacts}
use Rattle.gimli_dwarf_spec.specs.LineHeaders.{LineHeader, directory_at, file_at}
use Rattle.gimli_lines_machine.specs.Results.{and_then, some_of, each, ◌>>=◌}
use Rattle.gimli_dwarf_spec.specs.Attributes.{attr_string}
use Rattle.gimli_dwarf_spec.specs.UnitFacts.{UnitInFile}
use Rattle.addr2line_paths.specs.FilePaths.{file_text_of_bytes}

abbrev pub bytes_of : View → List ℕ
bytes_of v = v.bytes

-- the bytes of a text
abbrev pub text_bytes : UnitInFile → RawValue → Result (List ℕ) Error
text_bytes u v = and_then (attr_string u.file u.facts.bases v) (λ text. Ok (bytes_of text))

-- of one that may be absent
abbrev pub text_bytes_if_any : UnitInFile → Option RawValue
    → Result (Option (List ℕ)) Error
text_bytes_if_any u None = Ok None
text_bytes_if_any u (Some v) = some_of (text_bytes u v)

-- the directory of a file; 0 is the unit's own, which every text begins with
abbrev pub directory_of : LineHeader → FileFacts → Option RawValue
directory_of h f = if f.directory_index == 0 then None else directory_at h f.directory_index

-- the text of a file, or the refusal of its directory or of its path
abbrev pub text_of_file : UnitInFile → LineHeader → FileFacts → Result (List ℕ) Error
text_of_file u h f = do
  directory ← text_bytes_if_any u (directory_of h f)
  path ← text_bytes u f.path
  Ok (file_text_of_bytes (option_map bytes_of u.facts.comp_dir) directory path)

-- that of file 0, which is the empty text where there is none
abbrev pub text_of_file_0 : UnitInFile → LineHeader → Option FileFacts
    → Result (List ℕ) Error
text_of_file_0 u h None = Ok []
text_of_file_0 u h (Some f) = text_of_file u h f

-- the files from number 1 on
abbrev pub files_from_1 : LineHeader → List FileFacts
files_from_1 h = if nat_le h.encoding.version 4 then h.files else drop 1 h.files

-- the texts of all files of a header, by their numbers, or the first refusal
abbrev pub texts_of_files : UnitInFile → LineHeader → Result (List (List ℕ)) Error
texts_of_files u h = do
  text ← text_of_file_0 u h (file_at h 0)
  texts ← each (text_of_file u h) (files_from_1 h)
  Ok (text ∷ texts)
