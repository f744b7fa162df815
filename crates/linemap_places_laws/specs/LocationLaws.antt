-- Lookups over debug information that agrees with a table answer what the table means.
use Rattle.std.specs.Prelude.{◌≡◌, ℕ, List, option_map, Result, Ok}
use Rattle.addr2line_spec.specs.Error.{Error}
use Rattle.addr2line_spec.specs.Range.{Range}
use Rattle.addr2line_spec.specs.Lines.{Lines}
use Rattle.addr2line_spec.specs.PlaceLookups.{location_at}
use Rattle.linemap_meaning.specs.TableParts.{UnitPart}
use Rattle.linemap_meaning.specs.Conditions.{IsSound}
use Rattle.linemap_meaning.specs.Meaning as table
use Rattle.linemap_places_laws.specs.LookupAgreement.{TableAgrees, lookup_location}

-- at every address
abbrev pub LocationsMeet : Type 0 → Type 0
LocationsMeet U =
    (ranges : U → List Range) (lines : U → Result Lines Error) (us : List UnitPart) (xs : List U)
    (a : ℕ)
    → IsSound us → TableAgrees ranges lines us xs
    → location_at ranges lines xs a ≡ Ok (option_map lookup_location (table.location_at us a))
