-- A stretch of addresses with its place, as the iterator answers it.
use Rattle.std.specs.Prelude.{ℕ}
use Rattle.addr2line_lookups.specs.Lines.{Stretch}
use Rattle.addr2line_lookups.specs.Location.{Location}
use Rattle.addr2line_lookups.specs.BorrowedLocations.{location_value}

-- an address, how many there are from it on, and their place
abbrev pub stretch_of_item : ℕ × ℕ × Location → Stretch
stretch_of_item i = record { address = i.0; length = i.1; location = location_value i.2 }
