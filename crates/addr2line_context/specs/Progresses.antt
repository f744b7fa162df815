-- How far lookups came among the ranges of all units.
use Rattle.std.specs.Prelude.{◌≡◌, ◌⊎◌, ℕ, List, map}
use Rattle.addr2line_lookups.specs.UnitFacts.{UnitFacts}
use Rattle.addr2line_lookups.specs.ContextUnits.{ordered_ranges}
use Rattle.addr2line_lookups.specs.ResolvedUnits.{ResolvedUnit, value_of_unit, plain_unit}
use Rattle.addr2line_lookups.specs.KeptCalls.{known_among}
use Rattle.addr2line_lookups.specs.PassedUnits.{PassFrames, PassUnits, PassedAreKept}
use Rattle.addr2line_context.specs.declared.progress.Progress.{Progress}

-- A lookup of an address goes on from an index: from that of the last lookup, if it was of the same
-- address, and else from the first.
abbrev pub IsIndexFor : Progress → ℕ → ℕ → Type 0
IsIndexFor p a index = (index ≡ 0) ⊎ ((p.probe ≡ a) × (index ≡ p.index))

-- Before an index no unit with a range over an address has frames.
abbrev pub PassFramesIn : List UnitFacts → List ResolvedUnit → ℕ → ℕ → Type 0
PassFramesIn supplement_units us a index =
    PassFrames (known_among us supplement_units) (map value_of_unit us) a index
    (ordered_ranges (map plain_unit us))

-- No such unit is the unit of the address.
abbrev pub PassUnitsIn : List UnitFacts → List ResolvedUnit → ℕ → ℕ → Type 0
PassUnitsIn supplement_units us a index =
    PassUnits (known_among us supplement_units) (map value_of_unit us) a index
    (ordered_ranges (map plain_unit us))

-- The functions of the units with a range over an address before an index are kept.
abbrev pub PassedAreKeptIn : List ResolvedUnit → ℕ → ℕ → Type 0
PassedAreKeptIn us a index = PassedAreKept us a index (ordered_ranges (map plain_unit us))
