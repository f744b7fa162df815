-- What is emitted of a table's units, one after the other: texts, range lists, and the entries of
-- the current unit.
use Rattle.std.specs.Prelude.{ℕ, Bool, true, false, List, [], ◌∷◌, ◌++◌, ◌+◌, ◌<◌, ◌^◌, length, map}
use Rattle.gimli_lines_write_tables.specs.Encoding.{Encoding}
use Rattle.gimli_lines_write_tables.specs.StringSections.{IsText, with_text, text_index, offset_of}
use Rattle.gimli_lines_write_tables.specs.OutputBytes.{WriterContents, append}
use Rattle.linemap_emit_programs.specs.TableParts.{RangePart, Site, Calls, no_calls, more_calls, FunctionPart, UnitPart}
use Rattle.linemap_emit_programs.specs.Entry.{Entry}
use Rattle.linemap_emit_programs.specs.Entry.TheVariants.{CompileUnit, AbstractFunction, Function, Call, EndOfChildren}
use Rattle.linemap_emit_programs.specs.EmittedUnits.{abstract_offset}
use Rattle.linemap_emit_programs.specs.EmittedRanges.{AllWritable, lists_start, spelled_ranges}
use Rattle.linemap_emit_programs.specs.LookupAgreement.{lookup_range}
use Rattle.linemap_emit_units.specs.InlinedNames.{inlined_names}

-- the encoding, the texts of the string section, the range lists, and the entries of the unit
pub record EmittedUnit : Type 0 where
  pub encoding : Encoding
  pub texts : List (List ℕ)
  pub ranges : WriterContents
  pub entries : List Entry

-- the offset of a text, which is added if it isn't there
abbrev pub text_offset : List ℕ → EmittedUnit → ℕ
text_offset text st = offset_of (with_text st.texts text) (text_index st.texts text)

abbrev pub with_name : List ℕ → EmittedUnit → EmittedUnit
with_name text st = record st { texts = with_text st.texts text }

-- one more range list, after the others
abbrev pub with_list : List RangePart → EmittedUnit → EmittedUnit
with_list rs st =
    record st {
      ranges = append (spelled_ranges st.encoding st.ranges.is_big (map lookup_range rs))
          st.ranges;
    }

abbrev pub list_offset : EmittedUnit → ℕ
list_offset st = lists_start st.encoding + length st.ranges.bytes

abbrev pub with_entry : Entry → EmittedUnit → EmittedUnit
with_entry x st = record st { entries = st.entries ++ x ∷ [] }

-- there are calls
abbrev pub has_calls : Calls → Bool
has_calls no_calls = false
has_calls (more_calls site inner others) = true

-- the end of children, if there are some
abbrev pub with_end_of_children : Bool → EmittedUnit → EmittedUnit
with_end_of_children true st = with_entry EndOfChildren st
with_end_of_children false st = st

-- the entries of functions that are inlined somewhere, each with its name alone
abbrev pub with_abstract_functions : List (List ℕ) → EmittedUnit → EmittedUnit
with_abstract_functions [] st = st
with_abstract_functions (name ∷ names) st =
    with_abstract_functions names
    (with_entry (AbstractFunction (text_offset name st)) (with_name name st))

-- where the entry of such a function is, among those of some names
abbrev pub origin_of : Encoding → List (List ℕ) → List ℕ → ℕ
origin_of e names name = abstract_offset e (text_index names name)

-- the entry of a call of one of these functions: that function's entry, the call's ranges, and
-- where it is called, in a file that has a number
abbrev pub with_call : (ℕ → ℕ) → List (List ℕ) → Bool → Site → EmittedUnit → EmittedUnit
with_call number names children s st =
    with_entry
    (Call children (origin_of st.encoding names s.name) (list_offset st) (number s.file) s.line
    s.column) (with_list s.ranges st)

-- calls, each with those in it
unfoldable pub with_calls : (ℕ → ℕ) → List (List ℕ) → Calls → EmittedUnit → EmittedUnit
with_calls number names no_calls st = st
with_calls number names (more_calls site inner others) st =
    with_calls number names others
    (with_end_of_children (has_calls inner)
    (with_calls number names inner (with_call number names (has_calls inner) site st)))

-- the entry of a function
abbrev pub with_function_entry : FunctionPart → EmittedUnit → EmittedUnit
with_function_entry f st =
    with_entry (Function (has_calls f.calls) (text_offset f.name st) (list_offset st))
    (with_list f.ranges (with_name f.name st))

-- a function with its calls
abbrev pub with_function : (ℕ → ℕ) → List (List ℕ) → FunctionPart → EmittedUnit → EmittedUnit
with_function number names f st =
    with_end_of_children (has_calls f.calls)
    (with_calls number names f.calls (with_function_entry f st))

abbrev pub with_functions : (ℕ → ℕ) → List (List ℕ) → List FunctionPart → EmittedUnit → EmittedUnit
with_functions number names [] st = st
with_functions number names (f ∷ fs) st =
    with_functions number names fs (with_function number names f st)

-- the entry of a unit whose line program is at an offset
abbrev pub with_unit_entry : ℕ → UnitPart → EmittedUnit → EmittedUnit
with_unit_entry line_program u st =
    let next = with_name u.name st in
    with_entry (CompileUnit (text_offset u.name st) (text_offset u.directory next) line_program
    (list_offset st)) (with_list u.ranges (with_name u.directory next))

-- a unit, whose files have numbers: its entry, those of the functions that are inlined, those of
-- its functions with their calls, and the end of its children
abbrev pub with_unit : (ℕ → ℕ) → ℕ → UnitPart → EmittedUnit → EmittedUnit
with_unit number line_program u st =
    with_entry EndOfChildren
    (with_functions number (inlined_names u) u.functions
    (with_abstract_functions (inlined_names u) (with_unit_entry line_program u st)))

-- no current unit
abbrev pub without_entries : EmittedUnit → EmittedUnit
without_entries st = record st { entries = [] }

-- ---- what can be emitted

-- texts without a zero byte, and ranges that can be written in an address size
abbrev pub CanEmit : ℕ → List ℕ → List RangePart → Type 0
CanEmit size name rs = IsText name × AllWritable size (map lookup_range rs)

-- the same of calls, each with those in it, over a number of files
unfoldable pub CanEmitCalls : ℕ → ℕ → Calls → Type 0
CanEmitCalls size files no_calls = Unit {0}
CanEmitCalls size files (more_calls site inner others) =
    CanEmit size site.name site.ranges × (site.file < files) × CanEmitCalls size files inner
    × CanEmitCalls size files others

abbrev pub CanEmitFunctions : ℕ → ℕ → List FunctionPart → Type 0
CanEmitFunctions size files [] = Unit {0}
CanEmitFunctions size files (f ∷ fs) =
    CanEmit size f.name f.ranges × CanEmitCalls size files f.calls × CanEmitFunctions size files fs

-- what can be emitted of a unit, in which fewer than 2^31 functions are inlined
abbrev pub CanEmitUnit : ℕ → UnitPart → Type 0
CanEmitUnit size u =
    IsText u.directory × CanEmit size u.name u.ranges
    × CanEmitFunctions size (length u.files) u.functions
    × (length (inlined_names u) < 2 ^ 31)
