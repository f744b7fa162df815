-- Entries that say what the functions and calls of a table's unit say are read as these.
use Rattle.std.specs.Prelude.{◌≡◌, ℕ, Bool, false, List, ◌∷◌, Option, None, Ok}
use Rattle.linemap_emit_units.specs.View.{View}
use Rattle.linemap_emit_units.specs.DwarfFileType.TheVariants.{Main}
use Rattle.linemap_emit_units.specs.Encoding.{Encoding}
use Rattle.linemap_emit_units.specs.Attributes.{Bases}
use Rattle.linemap_emit_units.specs.DwarfFiles.{DwarfFile}
use Rattle.linemap_emit_units.specs.LineHeaders.{LineHeader}
use Rattle.linemap_emit_units.specs.UnitFacts.{UnitFacts, UnitInFile, in_file}
use Rattle.linemap_emit_units.specs.TableParts.{FunctionPart, UnitPart}
use Rattle.linemap_emit_units.specs.Conditions.{has_no_range, has_bad_line_or_column}
use Rattle.linemap_emit_units.specs.Entry.{Entry}
use Rattle.linemap_emit_units.specs.Entry.TheVariants.{CompileUnit}
use Rattle.linemap_emit_units.specs.EmittedEntries.{declarations}
use Rattle.linemap_emit_units.specs.EmittedUnits.{IsWritten, unit_for}
use Rattle.addr2line_functions.specs.Functions.{Function as FoundFunction, functions_of_unit}
use Rattle.addr2line_functions.specs.InlinedCalls.{Naming, calls_of_function}
use Rattle.addr2line_functions.specs.EntryReferences.{KnownUnits, HoldingUnit}
use Rattle.addr2line_functions.specs.ContextNames.{naming_from}
use Rattle.linemap_frames_laws.specs.CallAgreement.{FunctionsAgree}
use Rattle.linemap_emit_calls_laws.specs.RecordedFunctions.{RecordsFunctions}

-- the facts of a unit that was written: its entries, its bases, its name and directory, and the
-- header of its line number program
abbrev pub written_facts : Encoding → Bool → ℕ → ℕ → List Entry → Bases → Option View → Option View
    → Option LineHeader → UnitFacts
written_facts e is_big offset first all b name directory header = record {
  header = unit_for e is_big offset first all;
  table = declarations e;
  name = name;
  comp_dir = directory;
  bases = b;
  line_header = header;
  dwo_id = None;
}

-- the functions of a unit are a table's, and each is found with its name and its calls
pub record FunctionsFound (number : ℕ → ℕ) (fs : List FunctionPart) (u : UnitInFile)
    (naming : Naming) : Type 0 where
  pub found : List FoundFunction
  pub are_functions : functions_of_unit u ≡ Ok found
  pub agree : FunctionsAgree number (calls_of_function u naming) fs found

-- Where the entries of a unit say what the functions of a table's unit say, and these have ranges,
-- and lines and columns of 32 bits, they are found, whatever units references may lead to.
abbrev pub FunctionsAgain : Type 0
FunctionsAgain =
    (e : Encoding) (is_big : Bool) (s : DwarfFile) (offset first : ℕ)
    (name directory line_program range_list : ℕ) (others : List Entry) (b : Bases)
    (unit_name unit_directory : Option View) (header : Option LineHeader) (known : KnownUnits)
    (h : HoldingUnit) (number : ℕ → ℕ) (u : UnitPart)
    → let root = CompileUnit name directory line_program range_list in
    let unit =
    in_file s
    (written_facts e is_big offset first (root ∷ others) b unit_name unit_directory header) in
    IsWritten e → s.sections.file_type ≡ Main → b.encoding ≡ e → b.low_pc ≡ 0 → h.unit ≡ unit
    → has_no_range u ≡ false → has_bad_line_or_column u ≡ false
    → RecordsFunctions e s number u.functions root others
    → FunctionsFound number u.functions unit (naming_from known h)
