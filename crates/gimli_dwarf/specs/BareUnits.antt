-- Units whose declarations and line number programs are checked and not kept.
use Rattle.std.specs.Prelude.{ℕ, Bool, true, false, List, [], None, Result, Ok, Err}
use Rattle.std.specs.Option.{option_to_list}
use Rattle.gimli_dwarf_spec.specs.Error.{Error}
use Rattle.gimli_dwarf_spec.specs.Parsers.{value_of}
use Rattle.gimli_dwarf_spec.specs.NumberParsers.{unsigned}
use Rattle.gimli_dwarf_spec.specs.Results.{◌>>=◌}
use Rattle.gimli_dwarf_spec.specs.Declarations.{Declaration, declaration_at}
use Rattle.gimli_dwarf_spec.specs.UnitHeaders.{DebugUnit}
use Rattle.gimli_dwarf_spec.specs.DwarfFiles.{DwarfFile}
use Rattle.gimli_dwarf_spec.specs.UnitFacts.{UnitFacts, unit_facts}

-- the facts of a unit without its declarations and without the header of its line number program
abbrev pub bare_facts : UnitFacts → UnitFacts
bare_facts u = record u { table = []; line_header = None }

-- those of facts that may be refused
abbrev pub bare : Result UnitFacts Error → Result UnitFacts Error
bare facts = do
  u ← facts
  Ok (bare_facts u)

-- those of a unit, refused exactly where its facts are
abbrev pub bare_unit_facts : DwarfFile → DebugUnit → Result UnitFacts Error
bare_unit_facts file u = bare (unit_facts file u)

-- those of a unit that is whole, or bare
abbrev pub unit_facts_or_bare : Bool → DwarfFile → DebugUnit → Result UnitFacts Error
unit_facts_or_bare true file u = unit_facts file u
unit_facts_or_bare false file u = bare_unit_facts file u

-- ---- the root

-- a number, and 0 where it can't be read
abbrev pub number_or_0 : Result ℕ Error → ℕ
number_or_0 (Ok n) = n
number_or_0 (Err e) = 0

-- the code of a unit's first entry (DWARF 5, 7.5.2); 0, which no declaration has, where it can't be
-- read
abbrev pub root_code : DebugUnit → ℕ
root_code u = number_or_0 (value_of (unsigned u.entries))

-- of a unit's declarations, the one that its root has
abbrev pub root_declarations : DebugUnit → List Declaration → List Declaration
root_declarations u table = option_to_list (declaration_at (root_code u) table)
