-- What finds the names of a unit's functions and calls.
use Rattle.std.specs.Prelude.{◌≡◌, ℕ, Option, Ok}
use Rattle.gimli_units_entries.specs.View.{View}
use Rattle.gimli_units_entries.specs.AttributeValues.{RawAttribute}
use Rattle.addr2line_names.specs.EntryReferences.{KnownUnits, HoldingUnit}
use Rattle.addr2line_ranges.specs.InlinedCalls.{Naming}

-- no name is made of attributes of this name
abbrev pub PassesName : Naming → ℕ → Type 0
PassesName naming n =
    (found : Option View) (a : RawAttribute) → a.name ≡ n → naming found a ≡ Ok found

-- the unit with its file's sections, and the units that references may lead to
pub record UnitNaming : Type 0 where
  pub known : KnownUnits
  pub holder : HoldingUnit
