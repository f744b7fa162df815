-- A line number program as it is built: directories and files, what is recorded of files, and rows.
use Rattle.std.specs.Prelude.{◌≡◌, ◌≢◌, ◌⊎◌, ℕ, ◌<◌, ◌^◌, nat_le, length, Bool, true, false, List, [], ◌∷◌, ◌++◌, All, Result, Ok, Err, if◌then◌else◌}
use Rattle.gimli_lines_write_laws.specs.Encoding.{Encoding}
use Rattle.gimli_lines_write_laws.specs.Format.TheVariants.{Dwarf32}
use Rattle.gimli_lines_write_laws.specs.LineEncoding.{LineEncoding}
use Rattle.gimli_lines_write_laws.specs.LineDefaults.{default_line_encoding}
use Rattle.gimli_lines_write_laws.specs.LineRules.{LineRules}
use Rattle.gimli_lines_write_laws.specs.WriteError.{Error}
use Rattle.gimli_lines_write_laws.specs.WriteError.TheVariants.{Memory}
use Rattle.gimli_lines_write_laws.specs.Address.{Address}
use Rattle.gimli_lines_write_laws.specs.OutputBytes.{WriterContents}
use Rattle.gimli_lines_write_laws.specs.BuiltRows.{first_row, follows, rows_of, IsReadable}
use Rattle.gimli_lines_write_laws.specs.RowPieces.{IsBuildable}
use Rattle.gimli_lines_write_laws.specs.RowsBuilding.{BuilderState}
use Rattle.gimli_lines_write_laws.specs.FileDetails.{FileDetails}
use Rattle.gimli_lines_write_laws.specs.HeaderContents.{header_tables, empty_form_of, strings_after, line_strings_after, AllKnown}
use Rattle.gimli_lines_write_laws.specs.EntryBytes.{entries_bytes}
use Rattle.gimli_lines_write_laws.specs.UnitBytes.{unit_bytes}
use Rattle.gimli_lines_write_laws.specs.ExpressiblePrograms.{IsExpressible, IsTooLarge}
use Rattle.gimli_lines_write_laws.specs.ProgramReadBack.{InfoFits, SourceHasNoZero, ProgramReadsAs}
use Rattle.gimli_lines_write_laws.specs.FileTables.{Text, in_header, File, Info, no_info, ProgramFiles, IsConsistent}
use Rattle.gimli_lines_write_laws.specs.HeaderSpelling.{Tables}

-- a program, and whether it is none; in version 5 the header records the details of its files
pub record Program : Type 0 where
  pub is_none : Bool
  pub tables : ProgramFiles
  pub details : FileDetails
  pub rows : BuilderState

-- the header records no details
abbrev pub no_details : FileDetails
no_details = record { has_timestamp = false; has_size = false; has_md5 = false; has_source = false }

-- the special opcodes begin at 13
abbrev pub rules_with : Encoding → LineEncoding → LineRules
rules_with encoding line_encoding =
    record { encoding = encoding; line_encoding = line_encoding; opcode_base = 13 }

-- no rows yet
abbrev pub no_rows : LineRules → BuilderState
no_rows rules = record {
  rules = rules;
  entries = [];
  previous = first_row rules;
  row = first_row rules;
  in_sequence = false;
}

-- in version 5 the source file is file 0, in the working directory
abbrev pub first_files : ℕ → Text → List File
first_files version source_file =
    if nat_le version 4 then [] else record { path = source_file; directory = 0 } ∷ []

-- nothing is recorded of that file yet
abbrev pub first_infos : ℕ → List Info
first_infos version = if nat_le version 4 then [] else no_info ∷ []

-- a program of a working directory and a source file
abbrev pub new_program : Encoding → LineEncoding → Text → Text → Program
new_program encoding line_encoding working_dir source_file = record {
  is_none = false;
  tables = record {
    version = encoding.version;
    directories = working_dir ∷ [];
    files = first_files encoding.version source_file;
    infos = first_infos encoding.version;
  };
  details = no_details;
  rows = no_rows (rules_with encoding line_encoding);
}

-- the rules of no program: version 2 in 32-bit format, with addresses of eight bytes
abbrev pub none_rules : LineRules
none_rules =
    rules_with (record { address_size = 8; format = Dwarf32; version = 2 }) default_line_encoding

-- no program
abbrev pub none_program : Program
none_program = record {
  is_none = true;
  tables = record { version = 2; directories = []; files = []; infos = [] };
  details = no_details;
  rows = no_rows none_rules;
}

-- What holds of every program that is built: its tables are consistent, its numbers within the
-- ranges of their types, and its rows in order.
pub record IsBuilt (p : Program) : Type 0 where
  pub consistent : IsConsistent p.tables.version p.tables.directories p.tables.files p.tables.infos
  pub fit : All InfoFits p.tables.infos
  pub few : length p.tables.directories < 2 ^ 64
  pub same_version : p.tables.version ≡ p.rows.rules.encoding.version
  pub buildable : IsBuildable p.rows.rules
  pub least : p.rows.rules.line_encoding.minimum_instruction_length < 256
  pub most : p.rows.rules.line_encoding.maximum_operations_per_instruction < 256
  pub in_order : follows p.rows.rules (first_row p.rows.rules) p.rows.entries ≡ true

-- ---- a program as it is written, with the texts of `.debug_str` and of `.debug_line_str`

-- the string sections have the texts that the program has by reference
abbrev pub HasItsTexts : List (List ℕ) → List (List ℕ) → Program → Type 0
HasItsTexts strings line_strings p = AllKnown strings line_strings p.tables p.details (in_header [])

-- a program that a header can express, with the texts that it has by reference
pub record CanBeWritten (strings line_strings : List (List ℕ)) (p : Program) : Type 0 where
  pub is_some : p.is_none ≡ false
  pub texts : HasItsTexts strings line_strings p
  pub expressible : IsExpressible p.rows.rules p.tables p.details

-- the tables of its header
abbrev pub program_tables : List (List ℕ) → List (List ℕ) → Program → Tables
program_tables strings line_strings p = header_tables strings line_strings p.tables p.details

-- the bytes of its unit, or the first refusal
abbrev pub program_bytes : (Address → Result ℕ Error) → Bool → List (List ℕ) → List (List ℕ)
    → Program
    → Result (List ℕ) Error
program_bytes address_of is_big strings line_strings p =
    unit_bytes address_of is_big p.rows.rules (program_tables strings line_strings p) p.rows.entries

-- the texts of `.debug_str` once it is written, which may have gained the empty text
abbrev pub strings_with : List (List ℕ) → Program → List (List ℕ)
strings_with strings p = strings_after (empty_form_of p.tables p.details) strings

-- and those of `.debug_line_str`
abbrev pub line_strings_with : List (List ℕ) → Program → List (List ℕ)
line_strings_with line_strings p =
    line_strings_after (empty_form_of p.tables p.details) line_strings

-- Where a reader can follow the addresses, and files' own texts hold no zero byte, the bytes that
-- were written are read as a unit of the program's directories, files and rows, with the string
-- tables as they are after the write.
abbrev pub ReadsBack : List (List ℕ) → List (List ℕ) → Program → WriterContents → WriterContents
    → Type 0
ReadsBack strings line_strings p old new =
    IsReadable p.rows.rules 0 (first_row p.rows.rules) p.rows.entries
    → All SourceHasNoZero p.tables.infos
    → (unit : List ℕ) × (new.bytes ≡ old.bytes ++ unit)
    × ProgramReadsAs strings line_strings p.rows.rules p.tables p.details
    (rows_of p.rows.rules p.rows.entries) old.is_big unit

-- the first refusal of what its rows are written as: an address that the writer refuses, or one
-- that doesn't fit
abbrev pub RefusesRows : (Address → Result ℕ Error) → Bool → Program → Error → Type 0
RefusesRows address_of is_big p e =
    entries_bytes address_of is_big p.rows.rules (first_row p.rows.rules) p.rows.entries ≡ Err e

-- A write that gives a unit is of a program that a header can express; and such a program is
-- refused only for memory, a number that doesn't fit its width, or an address.
abbrev pub WritesIfExpressible : {A : Type 0} → (Address → Result ℕ Error) → Bool → Program
    → Result A Error → Type 0
WritesIfExpressible address_of is_big p (Ok _) = IsExpressible p.rows.rules p.tables p.details
WritesIfExpressible address_of is_big p (Err e) =
    IsExpressible p.rows.rules p.tables p.details → e ≢ Memory
    → IsTooLarge e ⊎ RefusesRows address_of is_big p e
