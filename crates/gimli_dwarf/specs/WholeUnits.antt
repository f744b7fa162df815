-- The whole of a unit whose declarations and line header were checked and aren't kept.
use Rattle.std.specs.Prelude.{◌≡◌, Result, Ok, Err}
use Rattle.gimli_dwarf_spec.specs.Error.{Error}
use Rattle.gimli_dwarf_spec.specs.TableParsing.{table_at}
use Rattle.gimli_dwarf_spec.specs.Results.{◌>>=◌}
use Rattle.gimli_dwarf_spec.specs.DwarfFiles.{DwarfFile}
use Rattle.gimli_dwarf_spec.specs.UnitFacts.{UnitFacts, UnitInFile, in_file, unit_facts, root, line_header_of, last_value_of_kind, line_reference_of, is_stmt_list}
use Rattle.gimli_dwarf.specs.Roots.{line_unit}
use Rattle.gimli_dwarf.specs.BareUnits.{bare_unit_facts}

-- the unit of its header in the file isn't refused, and this is what is left of it
abbrev pub IsBareIn : DwarfFile → UnitFacts → Type 0
IsBareIn file u = bare_unit_facts file u.header ≡ Ok u

-- facts that were read, or else others
abbrev pub facts_or : UnitFacts → Result UnitFacts Error → UnitFacts
facts_or u (Ok whole) = whole
facts_or u (Err e) = u

-- the facts of the unit of a bare one's header
unfoldable pub whole_facts : DwarfFile → UnitFacts → UnitFacts
whole_facts file u = facts_or u (unit_facts file u.header)

-- the whole of a bare unit
abbrev pub whole_unit : UnitInFile → UnitInFile
whole_unit u = in_file u.file (whole_facts u.file u.facts)

-- a unit with the declarations of its header, and the line header that its root names
abbrev pub with_parts : DwarfFile → UnitFacts → Result UnitFacts Error
with_parts file u = do
  table ← table_at u.header.abbrev_offset file.sections.debug_abbrev
  r ← root file.offset_limit u.header table
  line_header ←
      line_header_of file (line_unit u)
      (last_value_of_kind line_reference_of is_stmt_list r.attributes)
  Ok (record u { table = table; line_header = line_header })
