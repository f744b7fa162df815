-- The entries of directories and files as they are written: fields, one after the other (DWARF 5,
-- 6.2.4.1).
use Rattle.std.specs.Prelude.{◌≡◌, ℕ, ◌+◌, ◌^◌, ◌<◌, Bool, List, [], ◌∷◌, ◌++◌, All, flat_map, length, Some, None, if◌then◌else◌}
use Rattle.gimli_lines_write_rows.specs.TheConstants.{DW_FORM_udata, DW_FORM_data16}
use Rattle.gimli_lines_write_rows.specs.Format.{Format}
use Rattle.gimli_lines_write_rows.specs.Fixed.{number}
use Rattle.gimli_lines_write_rows.specs.Spelling.{unsigned_string}
use Rattle.gimli_lines_write_rows.specs.RowPieces.{when}
use Rattle.gimli_lines_header.specs.AttributeValues.{RawValue, unsigned_data, data_16}
use Rattle.gimli_lines_header.specs.declared.formats.FileEntryFormat.{FileEntryFormat}
use Rattle.gimli_lines_header.specs.LineFiles.{FileFacts, no_md5, path_content, directory_content, timestamp_content, size_content, md5_content, source_content}
pub use Rattle.gimli_lines_header.specs.UsualFormats.{field_format}
use Rattle.gimli_lines_write_spec.specs.HeaderTexts.{Text, form_of, spelled_text, value_of_text, IsReadableText}

-- a file: its path, the number of its directory, when it was modified, its size in bytes, its
-- digest, and its text
pub record WrittenFile : Type 0 where
  pub path : Text
  pub directory : ℕ
  pub timestamp : ℕ
  pub size : ℕ
  pub md5 : List ℕ
  pub source : Text

-- what files of version 5 have beside path and directory
pub record Details : Type 0 where
  pub has_timestamp : Bool
  pub has_size : Bool
  pub has_md5 : Bool
  pub has_source : Bool

-- A field: its content and its form, its bytes, and what is read of them where the first has an
-- identifier.
pub record WrittenField : Type 0 where
  pub content : ℕ
  pub form : ℕ
  pub bytes : List ℕ
  pub value : ℕ → RawValue

-- a text
abbrev pub text_field : Bool → Format → ℕ → Text → WrittenField
text_field is_big format content text = record {
  content = content;
  form = form_of text;
  bytes = spelled_text is_big format text;
  value = λ first. value_of_text is_big first text;
}

-- a number, by the form udata
abbrev pub number_field : ℕ → ℕ → WrittenField
number_field content n = record {
  content = content;
  form = DW_FORM_udata.0;
  bytes = unsigned_string n;
  value = λ _. unsigned_data n;
}

-- sixteen bytes, by the form data16, whose value is their number
abbrev pub digest_field : Bool → List ℕ → WrittenField
digest_field is_big md5 = record {
  content = md5_content;
  form = DW_FORM_data16.0;
  bytes = md5;
  value = λ _. data_16 (number is_big md5);
}

-- the fields of a file, the source apart
abbrev pub leading_fields : Bool → Format → Details → WrittenFile → List WrittenField
leading_fields is_big format d f =
    text_field is_big format path_content f.path
    ∷ number_field directory_content f.directory
    ∷ (when d.has_timestamp (number_field timestamp_content f.timestamp)
    ++ (when d.has_size (number_field size_content f.size)
    ++ when d.has_md5 (digest_field is_big f.md5)))

-- all fields of a file
abbrev pub file_fields : Bool → Format → Details → WrittenFile → List WrittenField
file_fields is_big format d f = leading_fields is_big format d f
    ++ when d.has_source (text_field is_big format source_content f.source)

-- fields one after the other
abbrev pub spelled_fields : List WrittenField → List ℕ
spelled_fields fields = flat_map (λ (f : WrittenField). f.bytes) fields

-- a file of version 5
abbrev pub spelled_file : Bool → Format → Details → WrittenFile → List ℕ
spelled_file is_big format d f = spelled_fields (file_fields is_big format d f)

-- ---- what comes before the entries

-- a directory is a path
abbrev pub directory_formats : ℕ → List FileEntryFormat
directory_formats form = field_format path_content form ∷ []

-- the formats of a file's fields, the source apart
abbrev pub leading_formats : Details → ℕ → List FileEntryFormat
leading_formats d path_form =
    field_format path_content path_form
    ∷ field_format directory_content DW_FORM_udata.0
    ∷ (when d.has_timestamp (field_format timestamp_content DW_FORM_udata.0)
    ++ (when d.has_size (field_format size_content DW_FORM_udata.0)
    ++ when d.has_md5 (field_format md5_content DW_FORM_data16.0)))

-- the formats of all fields of a file
abbrev pub file_formats : Details → ℕ → ℕ → List FileEntryFormat
file_formats d path_form source_form =
    leading_formats d path_form ++ when d.has_source (field_format source_content source_form)

-- the numbers of the content and the form
abbrev pub spelled_format : FileEntryFormat → List ℕ
spelled_format f = unsigned_string f.content_type.0 ++ unsigned_string f.form.0

-- how many, and the formats
abbrev pub spelled_formats : List FileEntryFormat → List ℕ
spelled_formats formats = length formats ∷ flat_map spelled_format formats

-- ---- what is read

-- A file of version 5: what its details say.
abbrev pub file_facts : Bool → Format → Details → ℕ → WrittenFile → FileFacts
file_facts is_big format d first f = record {
  path = value_of_text is_big first f.path;
  directory_index = f.directory;
  timestamp = if d.has_timestamp then f.timestamp else 0;
  size = if d.has_size then f.size else 0;
  md5 = if d.has_md5 then f.md5 else no_md5;
  source = if d.has_source then Some
      (value_of_text is_big (first + length (spelled_fields (leading_fields is_big format d f)))
      f.source) else None;
}

-- sixteen bytes
abbrev pub IsDigest : List ℕ → Type 0
IsDigest md5 = (length md5 ≡ 16) × All (λ b. b < 256) md5

-- a file that can be read again
pub record IsReadableFile (limit : ℕ) (format : Format) (f : WrittenFile) : Type 0 where
  pub path : IsReadableText limit format f.path
  pub directory : f.directory < 2 ^ 64
  pub timestamp : f.timestamp < 2 ^ 64
  pub size : f.size < 2 ^ 64
  pub md5 : IsDigest f.md5
  pub source : IsReadableText limit format f.source
