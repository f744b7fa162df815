-- Tests of programs that a header can express (DWARF 5, 6.2.4).
use Rattle.std.specs.Prelude.{ℕ, nat_le, ◌==◌, ◌&&◌, ◌||◌, not, Bool, true, List, [], Option, Some, None, unwrap_or}
use Rattle.std.specs.List.{list_all}
use Rattle.gimli_lines_write_laws.specs.LineRules.{LineRules}
use Rattle.gimli_lines_write_laws.specs.FileTables.{Text, in_header, File, Info, ProgramFiles}
use Rattle.gimli_lines_write_laws.specs.FileDetails.{FileDetails}
use Rattle.gimli_lines_write_laws.specs.HeaderTexts.{form_in_version}
use Rattle.gimli_lines_write_laws.specs.HeaderContents.{listed_directories, first_source, records_source}
use Rattle.gimli_lines_write_laws.specs.ExpressiblePrograms.{text_form, list_form, paths_of}
use Rattle.gimli_lines_write_program.specs.TextTests.{has_texts}
use Rattle.gimli_lines_write_program.specs.BuiltPrograms.{Program}

-- the form of a list's texts in a version, by the first of them
abbrev pub needed_form : ℕ → Option Text → ℕ
needed_form version first = form_in_version version (text_form (unwrap_or first (in_header [])))

-- texts have a form
abbrev pub have_form : ℕ → List Text → Bool
have_form form ts = list_all (λ t. text_form t == form) ts

-- the paths of files have a form
abbrev pub have_paths_of_form : ℕ → List File → Bool
have_paths_of_form form files = list_all (λ (f : File). text_form f.path == form) files

-- the text of a file, if it has one, has a form
abbrev pub source_has_form : ℕ → Option Text → Bool
source_has_form form (Some t) = text_form t == form
source_has_form form None = true

-- the texts of files have a form
abbrev pub have_sources_of_form : ℕ → List Info → Bool
have_sources_of_form form infos =
    list_all (λ (i : Info). source_has_form form i.source) infos

-- the version has a header for the number of operations an instruction
abbrev pub has_version : LineRules → Bool
has_version rules =
    nat_le 2 rules.encoding.version && nat_le rules.encoding.version 5
    && (nat_le 4 rules.encoding.version
    || nat_le rules.line_encoding.maximum_operations_per_instruction 1)

-- the texts of directories, of paths and, where they are recorded, of files have one form each
abbrev pub has_forms : ProgramFiles → FileDetails → Bool
has_forms k d =
    have_form (list_form k.version (listed_directories k.version k.directories))
    (listed_directories k.version k.directories)
    && have_paths_of_form (list_form k.version (paths_of k.files)) k.files
    && (not (records_source k.version d)
    || have_sources_of_form (needed_form k.version (first_source k.infos)) k.infos)

-- a program that a header can express, with the texts that it has by reference
abbrev pub is_writable : List (List ℕ) → List (List ℕ) → Program → Bool
is_writable strings line_strings p =
    not p.is_none && has_texts strings line_strings p.tables p.details && has_version p.rows.rules
    && has_forms p.tables p.details
