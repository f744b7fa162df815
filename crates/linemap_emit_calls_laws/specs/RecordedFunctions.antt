-- Entries that say what the functions and calls of a table's unit say.
use Rattle.std.specs.Prelude.{◌≡◌, ℕ, ◌+◌, Bool, true, false, List, [], ◌∷◌, ◌++◌, length, map, Some, Ok}
use Rattle.linemap_emit_units.specs.View.{View}
use Rattle.linemap_emit_units.specs.Encoding.{Encoding}
use Rattle.linemap_emit_units.specs.SectionReads.{string_at}
use Rattle.linemap_emit_units.specs.Attributes.{Bases, ranges_of_list}
use Rattle.linemap_emit_units.specs.DwarfFiles.{DwarfFile}
use Rattle.linemap_emit_units.specs.TableParts.{RangePart, Site, Calls, no_calls, more_calls, FunctionPart}
use Rattle.linemap_emit_units.specs.Entry.{Entry}
use Rattle.linemap_emit_units.specs.Entry.TheVariants.{AbstractFunction, Function, Call, EndOfChildren}
use Rattle.linemap_emit_units.specs.EmittedEntryRows.{spelled_entries}
use Rattle.linemap_emit_units.specs.EmittedEntryLaws.{AllEntriesFit}
use Rattle.linemap_emit_units.specs.EmittedUnits.{entries_start}
use Rattle.linemap_emit_units.specs.UnitEmission.{has_calls}
use Rattle.linemap_emit_units.specs.LookupAgreement.{lookup_range}
use Rattle.addr2line_functions.specs.InlinedCalls.{file_number}

-- a text is at an offset of the string section
pub record HasTextAt (s : DwarfFile) (offset : ℕ) (text : List ℕ) : Type 0 where
  pub found : View
  pub there : string_at offset s.sections.debug_str ≡ Ok found
  pub bytes : found.bytes ≡ text

-- a list of ranges is at an offset of its section
abbrev pub HasListAt : Encoding → DwarfFile → ℕ → List RangePart → Type 0
HasListAt e s offset rs =
    (b : Bases) → b.encoding ≡ e → b.low_pc ≡ 0
    → ranges_of_list s b offset ≡ Ok (map (λ r. Ok (lookup_range r)) rs)

-- ---- what the entries refer to

-- what the entries of calls refer to: the abstract functions, the range lists and the files
pub data CallReferences : Type 0 where
  no_references : CallReferences
  more_references : (origin range_list file : ℕ) (inner others : CallReferences) → CallReferences

-- what the entry of a function and those of its calls refer to
pub record FunctionReferences : Type 0 where
  pub name : ℕ
  pub range_list : ℕ
  pub calls : CallReferences

-- the end of children, if there are some
abbrev pub end_of_children : Bool → List Entry
end_of_children true = EndOfChildren ∷ []
end_of_children false = []

-- the entries of calls, each with those in it
unfoldable pub entries_of_calls : Calls → CallReferences → List Entry
entries_of_calls no_calls refs = []
entries_of_calls (more_calls site inner others) no_references = []
entries_of_calls (more_calls site inner others)
    (more_references origin range_list file within after) =
    Call (has_calls inner) origin range_list file site.line site.column
    ∷ (entries_of_calls inner within
    ++ (end_of_children (has_calls inner) ++ entries_of_calls others after))

-- the entries of a function and of its calls
abbrev pub entries_of_function : FunctionPart → FunctionReferences → List Entry
entries_of_function f refs =
    Function (has_calls f.calls) refs.name refs.range_list
    ∷ (entries_of_calls f.calls refs.calls ++ end_of_children (has_calls f.calls))

unfoldable pub entries_of_functions : List FunctionPart → List FunctionReferences → List Entry
entries_of_functions [] refs = []
entries_of_functions (f ∷ fs) [] = []
entries_of_functions (f ∷ fs) (r ∷ rs) = entries_of_function f r ++ entries_of_functions fs rs

-- ---- what they say

-- among the entries of a unit there is an abstract function with a name, at an offset of the unit
pub record HasOrigin (e : Encoding) (s : DwarfFile) (all : List Entry) (origin : ℕ)
    (name : List ℕ) : Type 0 where
  pub before : List Entry
  pub text : ℕ
  pub others : List Entry
  pub entries_are : all ≡ before ++ AbstractFunction text ∷ others
  pub place_is : (is_big : Bool)
      → origin ≡ entries_start e + length (spelled_entries e is_big before)
  pub is_name : HasTextAt s text name

-- the entry of a call says what the table's says
pub record RecordsCall (e : Encoding) (s : DwarfFile) (number : ℕ → ℕ) (all : List Entry)
    (site : Site) (origin range_list file : ℕ) : Type 0 where
  pub has_origin : HasOrigin e s all origin site.name
  pub ranges_are : HasListAt e s range_list site.ranges
  pub file_is : file_number e.version file ≡ Some (number site.file)

-- each of several calls, and of those in them
unfoldable pub RecordsCalls : Encoding → DwarfFile → (ℕ → ℕ) → List Entry → Calls → CallReferences
    → Type 0
RecordsCalls e s number all no_calls refs = Unit {0}
RecordsCalls e s number all (more_calls site inner others) no_references = ⊥
RecordsCalls e s number all (more_calls site inner others)
    (more_references origin range_list file within after) =
    RecordsCall e s number all site origin range_list file
    × RecordsCalls e s number all inner within × RecordsCalls e s number all others after

-- the entry of a function says what the table's says, and so do those of its calls
pub record RecordsFunction (e : Encoding) (s : DwarfFile) (number : ℕ → ℕ) (all : List Entry)
    (f : FunctionPart) (refs : FunctionReferences) : Type 0 where
  pub is_name : HasTextAt s refs.name f.name
  pub ranges_are : HasListAt e s refs.range_list f.ranges
  pub calls_are : RecordsCalls e s number all f.calls refs.calls

-- functions one by one
unfoldable pub AllRecorded : Encoding → DwarfFile → (ℕ → ℕ) → List Entry → List FunctionPart
    → List FunctionReferences → Type 0
AllRecorded e s number all [] [] = Unit {0}
AllRecorded e s number all [] (r ∷ rs) = ⊥
AllRecorded e s number all (f ∷ fs) [] = ⊥
AllRecorded e s number all (f ∷ fs) (r ∷ rs) =
    RecordsFunction e s number all f r × AllRecorded e s number all fs rs

-- The entries of a unit after its root say what a table's functions say: abstract functions, and
-- then the functions with their calls.
pub record RecordsFunctions (e : Encoding) (s : DwarfFile) (number : ℕ → ℕ)
    (fs : List FunctionPart) (root : Entry) (others : List Entry) : Type 0 where
  pub abstract_names : List ℕ
  pub refs : List FunctionReferences
  pub entries_are : others
      ≡ map AbstractFunction abstract_names ++ (entries_of_functions fs refs ++ EndOfChildren ∷ [])
  pub fit : AllEntriesFit s.offset_limit e (root ∷ others)
  pub are_recorded : AllRecorded e s number (root ∷ others) fs refs
