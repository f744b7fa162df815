-- The units of a file that lookups go over, or why there are none.
use Rattle.std.specs.Prelude.{ℕ, Bool, true, false, List, [], Option, Some, None, Result, Ok, Err, if◌then◌else◌}
use Rattle.std.specs.List.{filter_map}
use Rattle.gimli_lines_machine.specs.Error.{Error}
use Rattle.gimli_lines_machine.specs.Repetition.{Listing, fault_of}
use Rattle.gimli_lines_machine.specs.View.{View}
use Rattle.gimli_lines_machine.specs.Range.{Range}
use Rattle.gimli_dwarf_spec.specs.AttributeValues.{RawAttribute}
use Rattle.gimli_dwarf_spec.specs.EntryRows.{Row}
use Rattle.gimli_dwarf_spec.specs.ArangeSets.{sets_to_come}
use Rattle.gimli_dwarf_spec.specs.Tiling.{whole_section}
use Rattle.gimli_dwarf_spec.specs.UnitHeaders.{DebugUnit, UnitKind, type_unit, split_type, units_to_come}
use Rattle.gimli_lines_machine.specs.Results.{and_then, unless, each, ◌>>=◌}
use Rattle.gimli_dwarf_spec.specs.DwarfFiles.{DwarfFile, supplement}
use Rattle.gimli_dwarf_spec.specs.UnitFacts.{UnitFacts, UnitInFile, in_file, unit_facts, root}
use Rattle.addr2line_spec.specs.Lines.{Lines, Location, Stretch}
use Rattle.addr2line_spec.specs.PlaceLookups.{location_at, stretches_between}
use Rattle.addr2line_spec.specs.UnitLines.{lines_of_unit}
use Rattle.addr2line_spec.specs.UnitRanges.{ranges_of_attributes, is_partial, language_in}

-- ---- units

-- a unit of a context, with its ranges, its language and its lines
pub record ContextUnit : Type 0 where
  pub facts : UnitFacts
  pub ranges : List Range
  pub language : Option ℕ
  pub lines : Result Lines Error

-- units of types describe no code
abbrev pub is_of_types : UnitKind → Bool
is_of_types (type_unit signature offset) = true
is_of_types (split_type signature offset) = true
is_of_types _ = false

abbrev pub readable_facts : Result UnitFacts Error → Option UnitFacts
readable_facts (Ok u) = Some u
readable_facts (Err e) = None

-- the facts of a unit of code that isn't refused
abbrev pub facts_of_code_unit : DwarfFile → DebugUnit → Option UnitFacts
facts_of_code_unit file h =
    if is_of_types h.kind then None else readable_facts (unit_facts file h)

-- a unit whose root has these attributes
abbrev pub unit_of_root
    : UnitInFile → Result Lines Error → List RawAttribute → Result ContextUnit Error
unit_of_root u lines attributes = do
  ranges ← ranges_of_attributes u lines attributes
  Ok (record { facts = u.facts; ranges = ranges; language = language_in attributes; lines = lines })

-- a unit that others import
abbrev pub partial_unit : UnitFacts → Result Lines Error → ContextUnit
partial_unit facts lines = record { facts = facts; ranges = []; language = None; lines = lines }

-- a unit with this root; the attributes of a partial unit's root say nothing of it
abbrev pub unit_of_entry : UnitInFile → Result Lines Error → Row → Result ContextUnit Error
unit_of_entry u lines r =
    if is_partial u.facts.header.kind r.tag then Ok (partial_unit u.facts lines)
    else unit_of_root u lines r.attributes

-- a unit of a context, or the refusal of its ranges
abbrev pub context_unit : UnitInFile → Result ContextUnit Error
context_unit u = do
  r ← root u.file.offset_limit u.facts.header u.facts.table
  unit_of_entry u (lines_of_unit u) r

-- ---- files

-- the headers of a file's units, and what ends them
abbrev pub headers_of : DwarfFile → Listing View DebugUnit
headers_of file = units_to_come file.offset_limit (whole_section file.sections.debug_info)

-- a context's units of a file, or the first fault: of a unit's ranges, or of a header, which ends
-- them
abbrev pub units_of_file : DwarfFile → Result (List ContextUnit) Error
units_of_file file = do
  let headers = headers_of file
  let facts = filter_map (facts_of_code_unit file) headers.items
  us ← each (λ u. context_unit (in_file file u)) facts
  unless (fault_of headers) (Ok us)

-- the units of a supplement that can be read, of types too, or the fault of a header
abbrev pub units_of_supplement : Option DwarfFile → Result (List UnitFacts) Error
units_of_supplement None = Ok []
units_of_supplement (Some s) =
    unless (fault_of (headers_of s))
    (Ok (filter_map (λ h. readable_facts (unit_facts s h)) (headers_of s).items))

-- ---- contexts

-- what lookups go over: the file's units, numbered by their places, and its supplement's
pub record Context : Type 0 where
  pub units : List ContextUnit
  pub supplement_units : List UnitFacts

-- A context, unless it is refused: by a header of `.debug_aranges`, by the first fault in
-- `.debug_info`, or by a header of the supplement, in this order.
abbrev pub context : DwarfFile → Result Context Error
context file =
    unless (fault_of (sets_to_come file.offset_limit (whole_section file.sections.debug_aranges)))
    (do
      units ← units_of_file file
      supplement_units ← units_of_supplement (supplement file)
      Ok (record { units = units; supplement_units = supplement_units }))

-- a file, and the context over its sections
pub record FileContext : Type 0 where
  pub file : DwarfFile
  pub context : Context

-- the context over a file's sections, with the file, or why there is none
abbrev pub file_context : DwarfFile → Result FileContext Error
file_context file = do
  c ← context file
  Ok (record { file = file; context = c })

-- ---- lookups

abbrev pub ranges_of : ContextUnit → List Range
ranges_of u = u.ranges

abbrev pub lines_of : ContextUnit → Result Lines Error
lines_of u = u.lines

-- the place of an address
abbrev pub location : Context → ℕ → Result (Option Location) Error
location c a = location_at ranges_of lines_of c.units a

-- the stretches between two ends
abbrev pub stretches : Context → ℕ → ℕ → Listing (Unit {0}) Stretch
stretches c low high = stretches_between ranges_of lines_of c.units low high

-- the lines of all units, or the first refusal, by the units' numbers
abbrev pub all_lines : List ContextUnit → Result (List Lines) Error
all_lines units = each lines_of units

-- whether all of them can be read
abbrev pub all_lines_or_refusal : List ContextUnit → Result (Unit {0}) Error
all_lines_or_refusal units = and_then (all_lines units) (λ lines. Ok tt)
