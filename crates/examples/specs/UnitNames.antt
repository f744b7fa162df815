-- The name of a unit.
use Rattle.std.specs.Prelude.{Option, Result, Ok}
use Rattle.gimli_dwarf.specs.Results.{◌>>=◌}
use Rattle.gimli_dwarf.specs.View.{View}
use Rattle.gimli_dwarf.specs.Error.{Error}
use Rattle.gimli_dwarf.specs.UnitHeaders.{DebugUnit}
use Rattle.gimli_dwarf.specs.DwarfFiles.{DwarfFile}
use Rattle.gimli_dwarf.specs.UnitFacts.{unit_facts}

-- the name among the facts of a unit's root
abbrev pub name_of_unit : DwarfFile → DebugUnit → Result (Option View) Error
name_of_unit file header = do
  facts ← unit_facts file header
  Ok facts.name
