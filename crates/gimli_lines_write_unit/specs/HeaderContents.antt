-- What a header records of a program's directories and files (DWARF 5, 6.2.4 and 6.2.4.1).
use Rattle.std.specs.Prelude.{◌≡◌, ◌⊎◌, ℕ, ◌&&◌, nat_le, Bool, true, List, [], ◌∷◌, All, Option, Some, None, is_none, map, drop, unwrap_or, if◌then◌else◌, not}
use Rattle.std.specs.List.{list_any}
use Rattle.gimli_lines_write_tables.specs.StringSections.{with_text, text_index, offset_of}
use Rattle.gimli_lines_write_tables.specs.FileTables.{Text, in_header, of_strings, of_line_strings, File, Info, ProgramFiles}
use Rattle.gimli_lines_write_tables.specs.LineStrings.{IsKnown}
use Rattle.gimli_lines_write_spec.specs.EntryFields.{WrittenFile, Details}
use Rattle.gimli_lines_write_spec.specs.HeaderSpelling.{Tables}
use Rattle.gimli_lines_write_unit.specs.declared.details.FileDetails.{FileDetails}

-- what a header records beside paths and directories
abbrev pub details_of : FileDetails → Details
details_of d = record {
  has_timestamp = d.has_timestamp;
  has_size = d.has_size;
  has_md5 = d.has_md5;
  has_source = d.has_source;
}

-- a text as it is written: the texts of the tables by their offsets
abbrev pub header_text : List (List ℕ) → List (List ℕ) → Text → Text
header_text strings line_strings (in_header bytes) = in_header bytes
header_text strings line_strings (of_strings place) = of_strings (offset_of strings place)
header_text strings line_strings (of_line_strings place) =
    of_line_strings (offset_of line_strings place)

-- up to version 4 the first directory, the working directory, isn't listed
abbrev pub listed_directories : {A : Type 0} → ℕ → List A → List A
listed_directories version directories =
    if nat_le version 4 then drop 1 directories else directories

-- ---- sources

-- one, or else the other
abbrev pub or_else : Option Text → Option Text → Option Text
or_else (Some t) other = Some t
or_else None other = other

-- the first text of a file
abbrev pub first_source : List Info → Option Text
first_source [] = None
first_source (i ∷ infos) = or_else i.source (first_source infos)

-- sources are recorded in version 5, where the details say so
abbrev pub records_source : ℕ → FileDetails → Bool
records_source version d = not (nat_le version 4) && d.has_source

-- Where a file has no text, the empty text takes its place, in the form of the first that there is.
abbrev pub empty_form : ℕ → FileDetails → List Info → Option Text
empty_form version d infos = if records_source version d
    && list_any (λ (i : Info). is_none i.source) infos then first_source infos else None

-- the texts of `.debug_str`, with the empty text where its form is needed there
abbrev pub strings_after : Option Text → List (List ℕ) → List (List ℕ)
strings_after (Some (of_strings _)) strings = with_text strings []
strings_after _ strings = strings

-- the texts of `.debug_line_str`, with the empty text where its form is needed there
abbrev pub line_strings_after : Option Text → List (List ℕ) → List (List ℕ)
line_strings_after (Some (of_line_strings _)) line_strings = with_text line_strings []
line_strings_after _ line_strings = line_strings

-- the empty text in the form of another text, in a header where there is none
abbrev pub empty_text : List (List ℕ) → List (List ℕ) → Option Text → Text
empty_text strings line_strings (Some (of_strings _)) = of_strings (text_index strings [])
empty_text strings line_strings (Some (of_line_strings _)) =
    of_line_strings (text_index line_strings [])
empty_text strings line_strings _ = in_header []

-- ---- files

-- the text of a file, or the empty text, where texts are recorded
abbrev pub source_text : List (List ℕ) → List (List ℕ) → Bool → Text → Option Text → Text
source_text strings line_strings present empty source =
    if present then header_text strings line_strings (unwrap_or source empty) else in_header []

-- a file as a header records it
abbrev pub header_file : List (List ℕ) → List (List ℕ) → Bool → Text → File → Info → WrittenFile
header_file strings line_strings present empty f i = record {
  path = header_text strings line_strings f.path;
  directory = f.directory;
  timestamp = i.timestamp;
  size = i.size;
  md5 = i.md5;
  source = source_text strings line_strings present empty i.source;
}

-- files, each with what is recorded of it
abbrev pub header_files : List (List ℕ) → List (List ℕ) → Bool → Text → List File → List Info
    → List WrittenFile
header_files strings line_strings present empty [] infos = []
header_files strings line_strings present empty (f ∷ files) [] = []
header_files strings line_strings present empty (f ∷ files) (i ∷ infos) =
    header_file strings line_strings present empty f i ∷ header_files strings line_strings present
    empty
    files infos

-- the tables of a header
abbrev pub tables_with : List (List ℕ) → List (List ℕ) → ProgramFiles → FileDetails → Text → Tables
tables_with strings line_strings k d empty = record {
  directories = map (header_text strings line_strings) (listed_directories k.version k.directories);
  files = header_files strings line_strings (records_source k.version d) empty k.files k.infos;
  details = details_of d;
}

-- the tables of a header of a version
pub record VersionedTables : Type 0 where
  pub version : ℕ
  pub listed : Tables

-- whether the texts of files are written
abbrev pub writes_sources : VersionedTables → Bool
writes_sources t = not (nat_le t.version 4) && t.listed.details.has_source

-- every text that is recorded is one of its table's
pub record AllKnown (strings line_strings : List (List ℕ)) (k : ProgramFiles) (d : FileDetails)
    (empty : Text) : Type 0 where
  pub directories : All (IsKnown strings line_strings) k.directories
  pub paths : All (λ (f : File). IsKnown strings line_strings f.path) k.files
  pub sources : records_source k.version d ≡ true
      → All (λ (i : Info). IsKnown strings line_strings (unwrap_or i.source empty)) k.infos

-- the same of a program's files
abbrev pub empty_form_of : ProgramFiles → FileDetails → Option Text
empty_form_of k d = empty_form k.version d k.infos

-- the tables of a header, with the string sections that may have gained the empty text
abbrev pub header_tables : List (List ℕ) → List (List ℕ) → ProgramFiles → FileDetails → Tables
header_tables strings line_strings k d =
    tables_with (strings_after (empty_form_of k d) strings)
    (line_strings_after (empty_form_of k d) line_strings) k d
    (empty_text strings line_strings (empty_form_of k d))

-- a table after a refused write: as before, or with the empty text
abbrev pub GainsEmpty : List (List ℕ) → List (List ℕ) → Type 0
GainsEmpty old new = (new ≡ old) ⊎ (new ≡ with_text old [])
