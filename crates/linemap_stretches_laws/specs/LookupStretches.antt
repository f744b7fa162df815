-- The stretches of a table, as lookups answer them.
use Rattle.linemap_places_laws.specs.Lines.{Stretch}
use Rattle.linemap_places_laws.specs.Meaning as table
use Rattle.linemap_places_laws.specs.LookupAgreement.{lookup_location}

-- the same addresses, and the location as lookups answer it
abbrev pub lookup_stretch : table.Stretch → Stretch
lookup_stretch s =
    record { address = s.address; length = s.length; location = lookup_location s.location }
