-- Calls that answer the offsets of units' abbreviation tables, one after the other.
use Rattle.std.specs.Prelude.{◌≡◌, ◌≢◌, ℕ, suc, List, [], ◌∷◌, length, Option, Some, None, Result, Ok, Err}
use Rattle.gimli_dwarf_spec.specs.Error.{Error}
use Rattle.gimli_dwarf_spec.specs.Error.TheVariants.{Memory}
use Rattle.gimli_dwarf_spec.specs.Tiling.{RemainingSection}
use Rattle.gimli_dwarf_spec.specs.UnitHeaders.{units_to_come}
use Rattle.gimli_dwarf.specs.CachedFiles.{offsets_of_tables}

-- those of the units that are left; none after a unit that can't be read
abbrev pub offsets_to_come : ℕ → Option RemainingSection → List ℕ
offsets_to_come limit None = []
offsets_to_come limit (Some s) = offsets_of_tables (units_to_come limit s).items

-- Of those to come a call answers the first. It answers none, or a fault, where there are no more.
abbrev pub GivesOffset : {O : Type 0} → ℕ → (O → ℕ) → Option RemainingSection
    → Option (Result O Error) → Option RemainingSection → Type 0
GivesOffset limit count old None new = offsets_to_come limit old ≡ []
GivesOffset limit count old (Some (Ok o)) new =
    offsets_to_come limit old ≡ count o ∷ offsets_to_come limit new
GivesOffset limit count old (Some (Err e)) new = e ≢ Memory → offsets_to_come limit old ≡ []

-- a bound on the answers that are left, with a fault after the offsets
abbrev pub answers_left : ℕ → Option RemainingSection → ℕ
answers_left limit None = 0
answers_left limit (Some s) = suc (length (units_to_come limit s).items)
