-- Tests of texts that are built.
use Rattle.std.specs.Prelude.{ℕ, nat_lt, ◌&&◌, ◌||◌, not, Bool, true, List, length, Option, Some, None}
use Rattle.std.specs.List.{list_all}
use Rattle.gimli_lines_write_laws.specs.FileTables.{Text, in_header, of_strings, of_line_strings, File, Info, ProgramFiles}
use Rattle.gimli_lines_write_laws.specs.FileDetails.{FileDetails}
use Rattle.gimli_lines_write_laws.specs.HeaderContents.{records_source}

-- its table has a text
abbrev pub is_known : List (List ℕ) → List (List ℕ) → Text → Bool
is_known strings line_strings (in_header bytes) = true
is_known strings line_strings (of_strings place) = nat_lt place (length strings)
is_known strings line_strings (of_line_strings place) = nat_lt place (length line_strings)

-- its table has the text of a file, if it has one
abbrev pub is_source_known : List (List ℕ) → List (List ℕ) → Option Text → Bool
is_source_known strings line_strings (Some t) = is_known strings line_strings t
is_source_known strings line_strings None = true

-- the tables have the texts of directories, of paths and, where they are recorded, of files
abbrev pub has_texts : List (List ℕ) → List (List ℕ) → ProgramFiles → FileDetails → Bool
has_texts strings line_strings k d =
    list_all (is_known strings line_strings) k.directories
    && list_all (λ (f : File). is_known strings line_strings f.path) k.files
    && (not (records_source k.version d)
    || list_all (λ (i : Info). is_source_known strings line_strings i.source) k.infos)
