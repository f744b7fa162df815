-- The directories and files that a program has so far.
use Rattle.std.specs.Prelude.{◌≡◌, ℕ, List}
use Rattle.gimli_lines_write_program.specs.BuiltPrograms.{Program}
use Rattle.linemap_emit_programs.specs.EmittedFiles.{EmittedFiles}

-- with the texts of `.debug_line_str`
abbrev pub files_of : Program → List (List ℕ) → EmittedFiles
files_of p line_texts = record { line_texts = line_texts; tables = p.tables }

-- the program with others
abbrev pub with_files : EmittedFiles → Program → Program
with_files files p = record p { tables = files.tables }

-- its tables and its rows are of one version
abbrev pub HasOneVersion : Program → Type 0
HasOneVersion p = p.tables.version ≡ p.rows.rules.encoding.version
