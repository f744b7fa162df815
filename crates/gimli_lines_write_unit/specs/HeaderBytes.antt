-- The bytes of a header, or the first refusal of its texts (DWARF 5, 6.2.4).
use Rattle.std.specs.Prelude.{ℕ, ◌^◌, ◌==◌, nat_lt, nat_le, Bool, false, List, [], ◌∷◌, ◌++◌, flat_map, Result, Ok, Err, if◌then◌else◌}
use Rattle.gimli_lines_write_tables.specs.Encoding.{Encoding}
use Rattle.gimli_lines_write_tables.specs.Format.{Format}
use Rattle.gimli_lines_write_tables.specs.TheConstants.{DW_FORM_string}
use Rattle.gimli_lines_write_tables.specs.FormatSizes.{word_size}
use Rattle.gimli_lines_write_tables.specs.Spelling.{unsigned_string}
use Rattle.gimli_lines_write_tables.specs.WriteError.{Error}
use Rattle.gimli_lines_write_tables.specs.WriteError.TheVariants.{NeedVersion, LineStringFormMismatch, ValueTooLarge}
use Rattle.gimli_lines_write_tables.specs.LineRules.{LineRules}
use Rattle.gimli_lines_write_spec.specs.HeaderTexts.{Text, in_header, of_strings, of_line_strings, form_of, form_in, form_in_version}
use Rattle.gimli_lines_write_spec.specs.EntryFields.{WrittenFile, Details}
use Rattle.gimli_lines_write_spec.specs.HeaderSpelling.{Tables, path_form, source_form, spelled_header}

-- ---- bytes that may be refused

-- bytes, or the first of their refusals
abbrev pub bytes_or_refusal : List Error → List ℕ → Result (List ℕ) Error
bytes_or_refusal [] bytes = Ok bytes
bytes_or_refusal (e ∷ _) bytes = Err e

-- the bytes of things one after the other, or the first refusal of one
abbrev pub all_or_refusal : {A : Type 0} → (A → List Error) → (A → List ℕ) → List A
    → Result (List ℕ) Error
all_or_refusal refusals spelled xs =
    bytes_or_refusal (flat_map refusals xs) (flat_map spelled xs)

-- ---- why a text is refused

-- A text of another form than its list's: below version 5 texts by reference can't be expressed.
abbrev pub mismatch : ℕ → Error
mismatch version = if nat_le version 4 then NeedVersion else LineStringFormMismatch

-- an offset that is too large for an offset of the format
abbrev pub offset_refusals : Format → ℕ → List Error
offset_refusals format offset =
    if nat_lt offset (256 ^ word_size format) then [] else ValueTooLarge ∷ []

-- that of a text by reference
abbrev pub reference_refusals : Format → Text → List Error
reference_refusals format (in_header text) = []
reference_refusals format (of_strings offset) = offset_refusals format offset
reference_refusals format (of_line_strings offset) = offset_refusals format offset

-- a text in a list of a form
abbrev pub text_refusals : Encoding → ℕ → Text → List Error
text_refusals e form t =
    if form_of t == form then reference_refusals e.format t else mismatch e.version ∷ []

-- ---- why a header is refused, in the order in which its texts are written

-- the directories
abbrev pub directories_refusals : Encoding → List Text → List Error
directories_refusals e directories =
    flat_map (text_refusals e (form_in_version e.version (form_in directories))) directories

-- a file in lists of these forms, with its text where texts of files are written
abbrev pub file_refusals : Encoding → Bool → ℕ → ℕ → WrittenFile → List Error
file_refusals e has_source path_form source_form f =
    text_refusals e path_form f.path
    ++ (if has_source then text_refusals e source_form f.source else [])

-- the files up to version 4
abbrev pub files_refusals_to_4 : Encoding → Tables → List Error
files_refusals_to_4 e t =
    flat_map (file_refusals e false DW_FORM_string.0 DW_FORM_string.0) t.files

-- the files in version 5
abbrev pub files_refusals_of_5 : Encoding → Tables → List Error
files_refusals_of_5 e t =
    flat_map (file_refusals e t.details.has_source (path_form t) (source_form t)) t.files

-- the files
abbrev pub files_refusals : Encoding → Tables → List Error
files_refusals e t =
    if nat_le e.version 4 then files_refusals_to_4 e t else files_refusals_of_5 e t

-- the directories, then the files
abbrev pub header_refusals : Encoding → Tables → List Error
header_refusals e t = directories_refusals e t.directories ++ files_refusals e t

-- ---- the header

-- the fields after the second length, or the first refusal
unfoldable pub header_bytes : Bool → LineRules → Tables → Result (List ℕ) Error
header_bytes is_big rules t =
    bytes_or_refusal (header_refusals rules.encoding t) (spelled_header rules is_big t)

-- ---- a part of a file

-- what follows its path, its text apart
abbrev pub details_bytes : Details → WrittenFile → List ℕ
details_bytes d f =
    unsigned_string f.directory
    ++ ((if d.has_timestamp then unsigned_string f.timestamp else [])
    ++ ((if d.has_size then unsigned_string f.size else [])
    ++ (if d.has_md5 then f.md5 else [])))
