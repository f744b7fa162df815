-- Programs that a header can express (DWARF 5, 6.2.4 and 6.2.4.1).
use Rattle.std.specs.Prelude.{◌≡◌, ◌⊎◌, ℕ, ◌≤◌, true, List, [], All, map, filter_map}
use Rattle.gimli_lines_write_unit.specs.LineRules.{LineRules}
use Rattle.gimli_lines_write_unit.specs.WriteError.{Error}
use Rattle.gimli_lines_write_unit.specs.WriteError.TheVariants.{ValueTooLarge, InitialLengthOverflow}
use Rattle.gimli_lines_write_unit.specs.HeaderTexts.{form_of, form_in, form_in_version}
use Rattle.gimli_lines_write_unit.specs.FileTables.{Text, File, Info, ProgramFiles}
use Rattle.gimli_lines_write_unit.specs.declared.details.FileDetails.{FileDetails}
use Rattle.gimli_lines_write_unit.specs.HeaderContents.{header_text, listed_directories, records_source}

-- the form of a text
abbrev pub text_form : Text → ℕ
text_form t = form_of (header_text [] [] t)

-- the form of the texts of a list in a version
abbrev pub list_form : ℕ → List Text → ℕ
list_form version ts = form_in_version version (form_in (map (header_text [] []) ts))

-- the texts of a list have one form
abbrev pub HasOneForm : ℕ → List Text → Type 0
HasOneForm version ts = All (λ t. text_form t ≡ list_form version ts) ts

-- the texts of the files that have one
abbrev pub sources_of : List Info → List Text
sources_of infos = filter_map (λ (i : Info). i.source) infos

-- the paths of files
abbrev pub paths_of : List File → List Text
paths_of files = map (λ (f : File). f.path) files

-- A version from 2 to 5, before version 4 one operation an instruction, and texts of one form in
-- each list.
pub record IsExpressible (rules : LineRules) (k : ProgramFiles) (d : FileDetails) : Type 0 where
  pub first_version : 2 ≤ rules.encoding.version
  pub last_version : rules.encoding.version ≤ 5
  pub operations : rules.encoding.version ≤ 3
      → rules.line_encoding.maximum_operations_per_instruction ≤ 1
  pub directories : HasOneForm k.version (listed_directories k.version k.directories)
  pub paths : HasOneForm k.version (paths_of k.files)
  pub sources : records_source k.version d ≡ true → HasOneForm k.version (sources_of k.infos)

-- the refusal of a number that its width doesn't hold: a length or an offset of the format
abbrev pub IsTooLarge : Error → Type 0
IsTooLarge e = (e ≡ ValueTooLarge) ⊎ (e ≡ InitialLengthOverflow)
