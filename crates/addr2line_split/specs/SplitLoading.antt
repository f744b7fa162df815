-- What a load gets from what a source answers (DWARF 5, 7.3.2).
use Rattle.std.specs.Prelude.{◌≡◌, ℕ, ◌==◌, Bool, false, List, [], Option, Some, None, option_and_then, Result, Ok, Err, if◌then◌else◌}
use Rattle.std.specs.Result.{result_ok}
use Rattle.addr2line_unit.specs.Error.{Error}
use Rattle.addr2line_unit.specs.View.{View}
use Rattle.addr2line_unit.specs.Results.{and_then, ◌>>=◌}
use Rattle.addr2line_unit.specs.UnitHeaders.{DebugUnit}
use Rattle.addr2line_unit.specs.DwarfFiles.{DwarfFile}
use Rattle.gimli_dwarf_spec.specs.Splitting.{split_from}
use Rattle.addr2line_unit.specs.UnitFacts.{unit_facts}
use Rattle.addr2line_unit.specs.FirstAnswers.{SplitLoad}
use Rattle.addr2line_unit.specs.ContextUnits.{first_header}
use Rattle.addr2line_elf.specs.declared.error.LoadError.{LoadError}
use Rattle.addr2line_elf.specs.ElfImages.{image_of}
use Rattle.addr2line_split.specs.ImageFiles.{dwo_file}

-- ---- the first unit of a split file, as the file says it by itself

-- the identifier of a unit that may be there, or the unit's refusal
abbrev pub dwo_id_of : DwarfFile → Option DebugUnit → Result (Option ℕ) Error
dwo_id_of file None = Ok None
dwo_id_of file (Some h) = do
  u ← unit_facts file h
  Ok u.dwo_id

-- the identifier of a file's first unit
abbrev pub first_dwo_id : DwarfFile → Result (Option ℕ) Error
first_dwo_id file = do
  header ← first_header file
  dwo_id_of file header

-- it is there, it can be read, and it is this one
abbrev pub is_id : ℕ → Result (Option ℕ) Error → Bool
is_id id (Ok (Some n)) = n == id
is_id id (Ok None) = false
is_id id (Err e) = false

-- ---- the file of a load

-- the sections of a split file that some bytes are, which are an ELF file
abbrev pub sections_in : List ℕ → Result DwarfFile LoadError
sections_in bytes = and_then (image_of bytes) dwo_file

-- A file whose first unit has the load's identifier, with what only the main file has. That unit is
-- read without it: what needs the main file's addresses is refused there.
abbrev pub if_of_load : SplitLoad → DwarfFile → Option DwarfFile
if_of_load load file =
    if is_id load.dwo_id (first_dwo_id file) then Some (split_from load.parent file) else None

-- the file that a source's answer is to a load
abbrev pub file_for : SplitLoad → Option (List ℕ) → Option DwarfFile
file_for load None = None
file_for load (Some bytes) = option_and_then (if_of_load load) (result_ok (sections_in bytes))

-- ---- loads, by what a source answers

-- the bytes of a directory; none where the unit says none
abbrev pub directory_bytes : Option View → List ℕ
directory_bytes None = []
directory_bytes (Some directory) = directory.bytes

module _ {S : Type 0} (answers : S → List ℕ → List ℕ → Result (Option (List ℕ)) Error → S → Type 0)
  where
    -- A load without a name gets none, and nothing is asked for. Else the source is asked for that
    -- name, and the file is what its answer is to the load.
    abbrev pub GetsNamed
        : SplitLoad → Option View → S → Result (Option DwarfFile) Error → S → Type 0
    GetsNamed load None old file new = (file ≡ Ok None) × (new ≡ old)
    GetsNamed load (Some name) old file new =
        (answer : Result (Option (List ℕ)) Error)
        × answers old (directory_bytes load.comp_dir) name.bytes answer new
        × (file ≡ and_then answer (λ bytes. Ok (file_for load bytes)))

    abbrev pub GetsFile : SplitLoad → S → Result (Option DwarfFile) Error → S → Type 0
    GetsFile load old file new = GetsNamed load load.path old file new
