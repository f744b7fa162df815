-- Units in the order of their offsets, as a section has them.
use Rattle.std.specs.Prelude.{ℕ, List}
use Rattle.std.specs.List.Sorted.{IsNonDecreasingBy}
use Rattle.gimli_dwarf.specs.UnitFacts.{UnitFacts}
use Rattle.addr2line_names.specs.EntryReferences.{KnownUnits}

-- where a unit begins in its section
abbrev pub unit_offset : UnitFacts → ℕ
unit_offset u = u.header.offset

-- no unit begins before one that is earlier in the list
abbrev pub AreInOrder : List UnitFacts → Type 0
AreInOrder units = IsNonDecreasingBy unit_offset units

-- that holds of the units of each file that references may lead to
pub record AreKnownInOrder (known : KnownUnits) : Type 0 where
  pub units : AreInOrder known.units
  pub supplement_units : AreInOrder known.supplement_units
