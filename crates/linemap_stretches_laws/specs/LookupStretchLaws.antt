-- Stretches between two ends over debug information that agrees with a table are what it means.
use Rattle.std.specs.Prelude.{◌≡◌, ℕ, List, map, Result, Ok}
use Rattle.linemap_places_laws.specs.Error.{Error}
use Rattle.linemap_places_laws.specs.Repetition.{no_items, prepend}
use Rattle.linemap_places_laws.specs.Range.{Range}
use Rattle.linemap_places_laws.specs.Lines.{Lines}
use Rattle.linemap_places_laws.specs.PlaceLookups.{stretches_between}
use Rattle.linemap_places_laws.specs.TableParts.{UnitPart}
use Rattle.linemap_places_laws.specs.Conditions.{IsSound}
use Rattle.linemap_places_laws.specs.Meaning as table
use Rattle.linemap_places_laws.specs.LookupAgreement.{TableAgrees}
use Rattle.linemap_stretches_laws.specs.LookupStretches.{lookup_stretch}

-- between every two ends, all of the table's stretches in its order, and nothing refused
abbrev pub StretchesMeet : Type 0 → Type 0
StretchesMeet U =
    (ranges : U → List Range) (lines : U → Result Lines Error) (us : List UnitPart) (xs : List U)
    (low high : ℕ)
    → IsSound us → TableAgrees ranges lines us xs
    → stretches_between ranges lines xs low high
    ≡ prepend (map lookup_stretch (table.stretches_between us low high)) (no_items (Ok tt))
