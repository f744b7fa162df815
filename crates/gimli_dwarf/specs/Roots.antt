-- A unit as its facts are read one after the other.
use Rattle.std.specs.Prelude.{ℕ, List, Option, None, Result, Ok}
use Rattle.gimli_dwarf_spec.specs.Error.{Error}
use Rattle.gimli_dwarf_spec.specs.Declarations.{Declaration}
use Rattle.gimli_dwarf_spec.specs.AttributeValues.{RawValue}
use Rattle.gimli_dwarf_spec.specs.Attributes.{Bases}
use Rattle.gimli_dwarf_spec.specs.UnitHeaders.{DebugUnit}
use Rattle.gimli_dwarf_spec.specs.LineHeaders.{LineHeader}
use Rattle.gimli_dwarf_spec.specs.HeaderParsing.{LineUnit}
use Rattle.gimli_dwarf_spec.specs.Results.{◌>>=◌}
use Rattle.gimli_dwarf_spec.specs.DwarfFiles.{DwarfFile}
use Rattle.gimli_dwarf_spec.specs.UnitFacts.{UnitFacts, with_low_pc, readable_text, line_header_of, address_or_0}

-- its header, its declarations, its bases and its identifier
abbrev pub facts_without_texts : DebugUnit → List Declaration → Bases → Option ℕ → UnitFacts
facts_without_texts u table bases dwo_id = record {
  header = u;
  table = table;
  name = None;
  comp_dir = None;
  bases = bases;
  line_header = None;
  dwo_id = dwo_id;
}

-- with its texts
abbrev pub facts_with_texts : DwarfFile → UnitFacts → Option RawValue → Option RawValue
    → UnitFacts
facts_with_texts file u name comp_dir = record u {
  name = readable_text file u.bases name;
  comp_dir = readable_text file u.bases comp_dir;
}

-- what a line header takes of it
abbrev pub line_unit : UnitFacts → LineUnit
line_unit u =
    record { address_bytes = u.header.encoding.address_size; directory = u.comp_dir; name = u.name }

-- with a line header, and an address to begin at, unless that is refused
abbrev pub with_program_and_begin : UnitFacts → Option LineHeader → Result ℕ Error
    → Result UnitFacts Error
with_program_and_begin u line_header low_pc = do
  a ← low_pc
  Ok (record u { bases = with_low_pc a u.bases; line_header = line_header })

-- with its line header, and where it begins
abbrev pub facts_with_program : DwarfFile → UnitFacts → Option ℕ → Option RawValue
    → Result UnitFacts Error
facts_with_program file u line low_pc = do
  h ← line_header_of file (line_unit u) line
  with_program_and_begin u h (address_or_0 file u.bases low_pc)
