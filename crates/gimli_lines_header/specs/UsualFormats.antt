-- The formats of entries that most tables have.
use Rattle.std.specs.Prelude.{ℕ, List, [], ◌∷◌}
use Rattle.gimli_units_headers.specs.TheConstants.{DW_FORM_data16}
use Rattle.gimli_lines_header.specs.declared.formats.FileEntryFormat.{FileEntryFormat}
use Rattle.gimli_lines_header.specs.declared.usual_entries.UsualFields.{UsualFields}
use Rattle.gimli_lines_header.specs.declared.usual_entries.UsualFields.TheVariants.{Path, PathAndDirectory, PathDirectoryAndDigest}
use Rattle.gimli_lines_header.specs.LineFiles.{path_content, directory_content, md5_content}

-- a field of a content in a form
abbrev pub field_format : ℕ → ℕ → FileEntryFormat
field_format content form =
    record { content_type = record { 0 = content }; form = record { 0 = form } }

-- the formats of fields that are usual
abbrev pub usual_formats : UsualFields → List FileEntryFormat
usual_formats (Path path) = field_format path_content path.0 ∷ []
usual_formats (PathAndDirectory path directory) =
    field_format path_content path.0 ∷ field_format directory_content directory.0 ∷ []
usual_formats (PathDirectoryAndDigest path directory) =
    field_format path_content path.0 ∷ field_format directory_content directory.0
    ∷ field_format md5_content DW_FORM_data16.0 ∷ []
